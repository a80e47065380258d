use Rattle.soc_listen.specs.Memory.{listener_told}
use Rattle.soc_session_tests.proofs.collect.collected_alone.Given as goal

abbrev pub ghosts-collect_alone-N-Ledger : goal.ghosts-collect_alone-N-Ledger
ghosts-collect_alone-N-Ledger g a = record { name = a.handed.name; parts = a.handed.parts }

abbrev pub ghosts-collect_alone-M-Ledger : goal.ghosts-collect_alone-M-Ledger
ghosts-collect_alone-M-Ledger g a = record { name = a.refused.name; parts = a.refused.parts }

abbrev pub ghosts-collect_alone-J-Naming : goal.ghosts-collect_alone-J-Naming
ghosts-collect_alone-J-Naming g a = record { opened = listener_told a.listener }
