use Rattle.soc_session_tests.proofs.shared.by_two.Given as goal

abbrev pub ghosts-taken_by_two-N-Ledger : goal.ghosts-taken_by_two-N-Ledger
ghosts-taken_by_two-N-Ledger g a = record { name = a.handed.name; parts = a.handed.parts }

abbrev pub ghosts-taken_by_two-M-Ledger : goal.ghosts-taken_by_two-M-Ledger
ghosts-taken_by_two-M-Ledger g a = record { name = a.refused.name; parts = a.refused.parts }

abbrev pub ghosts-taken_by_two-J-Naming : goal.ghosts-taken_by_two-J-Naming
ghosts-taken_by_two-J-Naming g a = record { opened = g.L.Listener.told a.listener }
