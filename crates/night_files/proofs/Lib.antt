mod LockSearch
