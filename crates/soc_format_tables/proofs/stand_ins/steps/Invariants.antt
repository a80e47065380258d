use Rattle.soc_format_tables.proofs.stand_ins.steps.Given as goal

abbrev pub ghosts-count : goal.ghosts-count
ghosts-count a = record { name = a.blank.name; parts = a.blank.parts }
