use Rattle.soc_book.proofs.book.Book.report.Given as goal

abbrev pub ghosts-row_shown : goal.ghosts-row_shown
ghosts-row_shown g a = record { name = a.blank.name; parts = a.blank.parts }
