mod NamesAreAtoms
