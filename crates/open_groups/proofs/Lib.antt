mod OpenLaws
