mod ConflictLaws
