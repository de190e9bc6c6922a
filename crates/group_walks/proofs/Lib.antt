mod WalkLaws
