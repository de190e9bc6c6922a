mod FreshLaws
