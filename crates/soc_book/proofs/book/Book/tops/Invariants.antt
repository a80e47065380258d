use Rattle.soc_book.proofs.book.Book.tops.Given as goal

abbrev pub ghosts-top_crashers : goal.ghosts-top_crashers
ghosts-top_crashers g a = record { name = a.blank.name; parts = a.blank.parts }
