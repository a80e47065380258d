use Rattle.soc_search_tables.proofs.tops.tops_over.Given as goal

abbrev pub ghosts-answered : goal.ghosts-answered
ghosts-answered a = record { name = a.blank.name; parts = a.blank.parts }
