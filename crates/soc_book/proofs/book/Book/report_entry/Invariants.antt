use Rattle.soc_book.proofs.book.Book.report_entry.Given as goal

abbrev pub ghosts-entry_of_row : goal.ghosts-entry_of_row
ghosts-entry_of_row g a = record { name = a.blank.name; parts = a.blank.parts }
