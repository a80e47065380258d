-- What counting one more leaves.
use Rattle.std.proofs.Common.{◌≡◌, ℕ, zero, suc, ◌+◌, ◌<◌, [], List, Option, None, Some, Ok, Err, length, map, drop, set, get_or, ap, sym, subst, ◌∙◌, refl, arith, ◌∷◌}
use Rattle.std.proofs.lemmas.List.{get_or_default}
use Rattle.std.specs.Prelude.{insert}
use Rattle.std.specs.declared.cmp.Ordering.TheVariants.{Equal}
use Rattle.soc_store.specs.Orders.{product_cmp}
use Rattle.soc_store.specs.Stored.{counted, one_more, tally}
use Rattle.soc_schema.specs.Tables.{Rising, FindsKey}
use Rattle.soc_store.specs.declared.counts.ProductCount.{ProductCount}
use Rattle.soc_store.proofs.Tables.{alter_found, alter_gap, rising_alter}
use Rattle.soc_store.proofs.OrderLemmas.{product_total, product_exact}

abbrev pub product : ProductCount → Option (List ℕ)
product c = c.product

kept : (p : Option (List ℕ)) (c : Option ProductCount) → product (one_more p c) ≡ p
kept p None = refl
kept p (Some c) = refl

pub counted_found : (found cs : List ProductCount) (p : Option (List ℕ)) (i : ℕ) (c d : ProductCount) (more : ℕ) → found ≡ cs → Rising (λ (c : ProductCount). c.product) product_cmp cs → FindsKey (λ (c : ProductCount). c.product) product_cmp p found (Ok i)
    → c ≡ get_or cs i c → d ≡ get_or cs i d → more ≡ c.count + 1 → set cs i (record { product = d.product; count = more }) ≡ counted p cs
counted_found found cs p i c d more same rising place at_c at_d is =
    let here : FindsKey product product_cmp p cs (Ok i) = subst (λ es. FindsKey product product_cmp p es (Ok i)) same place in
    let one : d ≡ c = at_d ∙ get_or_default cs i d c here.0 ∙ sym at_c in
    let tied = subst (λ u. product_cmp (product u) p ≡ Equal) (sym at_c) (here.1 c) in
    sym (alter_found product product_total p (one_more p) cs i c rising here.0 at_c tied
    ∙ ap (λ u. set cs i u) (ap (λ q. record { product = q; count = c.count + 1 }) (sym (ap product one ∙ product_exact _ _ tied)) ∙ ap (λ n. record { product = d.product; count = n }) (sym is)))

pub counted_gap : (found cs : List ProductCount) (p q : Option (List ℕ)) (i : ℕ) → found ≡ cs → FindsKey (λ (c : ProductCount). c.product) product_cmp p found (Err i) → q ≡ p → insert cs i (record { product = q; count = 1 }) ≡ counted p cs
counted_gap found cs p q i same place is =
    let here : FindsKey product product_cmp p cs (Err i) = subst (λ es. FindsKey product product_cmp p es (Err i)) same place in
    ap (λ u. insert cs i (record { product = u; count = 1 })) is ∙ sym (alter_gap product product_total p (one_more p) cs i here.0 here.1)

rising_tally : (ps : List (Option (List ℕ))) → Rising (λ (c : ProductCount). c.product) product_cmp (tally ps)
rising_tally [] = tt
rising_tally (p ∷ ps) = rising_alter product product_total p (one_more p) (kept p) (tally ps) (rising_tally ps)

pub rising_from : (cs : List ProductCount) (ps : List (Option (List ℕ))) → cs ≡ tally ps → Rising (λ (c : ProductCount). c.product) product_cmp cs
rising_from cs ps is = subst (Rising product product_cmp) (sym is) (rising_tally ps)

-- one more product, from the last one on
pub tally_more : (f : ℕ → Option (List ℕ)) (ps : List ℕ) (j : ℕ) → j < length ps → counted (f (get_or ps j 0)) (tally (drop (suc j) (map f ps))) ≡ tally (drop j (map f ps))
tally_more f [] j lt = absurd (omega arith)
tally_more f (p ∷ ps) zero lt = refl
tally_more f (p ∷ ps) (suc j) lt = tally_more f ps j (omega arith)
