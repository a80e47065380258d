use Rattle.std.proofs.Common.{[], ◌∷◌}
use Rattle.soc_store.proofs.StoreLemmas.{all_empty}
use Rattle.soc_store.proofs.store.no_values.Goals as goal

pub returns-clause-each : goal.returns-clause-each
returns-clause-each c = all_empty (c.new.result ∷ c.new-2.result ∷ c.new-3.result ∷ c.new-4.result ∷ c.new-5.result ∷ c.new-6.result ∷ c.new-7.result ∷ c.new-8.result ∷ c.new-9.result ∷ c.new-10.result ∷ c.new-11.result ∷ c.new-12.result ∷ c.new-13.result ∷ c.new-14.result ∷ c.new-15.result ∷ c.new-16.result ∷ c.new-17.result ∷ c.new-18.result ∷ c.new-19.result ∷ c.new-20.result ∷ c.new-21.result ∷ c.new-22.result ∷ c.new-23.result ∷ c.new-24.result ∷ c.new-25.result ∷ c.new-26.result ∷ c.new-27.result ∷ c.new-28.result ∷ c.new-29.result ∷ c.new-30.result ∷ c.new-31.result ∷ c.new-32.result ∷ c.new-33.result ∷ c.new-34.result ∷ c.new-35.result ∷ c.new-36.result ∷ []) (c.new.ensures, (c.new-2.ensures, (c.new-3.ensures, (c.new-4.ensures, (c.new-5.ensures, (c.new-6.ensures, (c.new-7.ensures, (c.new-8.ensures, (c.new-9.ensures, (c.new-10.ensures, (c.new-11.ensures, (c.new-12.ensures, (c.new-13.ensures, (c.new-14.ensures, (c.new-15.ensures, (c.new-16.ensures, (c.new-17.ensures, (c.new-18.ensures, (c.new-19.ensures, (c.new-20.ensures, (c.new-21.ensures, (c.new-22.ensures, (c.new-23.ensures, (c.new-24.ensures, (c.new-25.ensures, (c.new-26.ensures, (c.new-27.ensures, (c.new-28.ensures, (c.new-29.ensures, (c.new-30.ensures, (c.new-31.ensures, (c.new-32.ensures, (c.new-33.ensures, (c.new-34.ensures, (c.new-35.ensures, (c.new-36.ensures, tt))))))))))))))))))))))))))))))))))))
