use Rattle.soc_crew.proofs.crew.serve_together.Given as goal

abbrev pub ghosts-serve_with-N-Ledger : goal.ghosts-serve_with-N-Ledger
ghosts-serve_with-N-Ledger g a = record { name = a.blanks.0.name; parts = a.blanks.0.parts }

abbrev pub ghosts-serve_with-M-Ledger : goal.ghosts-serve_with-M-Ledger
ghosts-serve_with-M-Ledger g a = record { name = a.blanks.1.name; parts = a.blanks.1.parts }

abbrev pub ghosts-serve_with-J-Naming : goal.ghosts-serve_with-J-Naming
ghosts-serve_with-J-Naming g a = record { opened = g.L.Listener.told a.listener }
