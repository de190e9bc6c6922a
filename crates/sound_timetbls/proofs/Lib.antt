mod ServiceLaws
