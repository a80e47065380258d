-- Worked examples.
use Rattle.std.specs.Prelude.{◌≡◌, ℕ, if◌then◌else◌, [], ◌∷◌, None, Some, codes, refl, replicate, ◌==◌}
use Rattle.std.specs.List.{concat}
use Rattle.std.specs.Str.{bytes_eq}
use Rattle.soc_symfile.specs.Cfi.{Span}
use Rattle.soc_cfi.specs.Known.{Known, known}
use Rattle.soc_cfi.specs.Postfix.{rule_value}
use Rattle.soc_cfi.specs.Rules.{rule_of, rules_at}
use Rattle.soc_cfi.specs.Words.{tokens}

spaces : tokens (codes "  $rsp  8 ") ≡ codes "$rsp" ∷ codes "8" ∷ []
spaces = refl

-- `$rsp` has the value 4,111, the frame address is 32, and the word at 24 is 5
abbrev here : ℕ → Known
here width =
    known width (λ name. if bytes_eq name (codes "$rsp") then Some 4111 else None) (Some 32) (λ address width. if address == 24 then Some 5 else None)

rounded : rule_value (here 8) (codes "$rsp 16 @") ≡ Some 4096
unfolding lib.Count.ones
rounded = refl

loaded : rule_value (here 8) (codes ".cfa 8 - ^") ≡ Some 5
loaded = refl

wrapped : rule_value (here 4) (codes "-1") ≡ Some 0xffffffff
wrapped = refl

too_large : rule_value (here 4) (codes "18446744073709551616") ≡ None
too_large = refl

two_left : rule_value (here 8) (codes "1 2") ≡ None
two_left = refl

full : rule_value (here 8) (concat (replicate 65 (codes "1 "))) ≡ None
full = refl

-- `.cfa` is replaced at 4, `.ra` isn't, and the last of two rules counts
abbrev span : Span
span = record {
  init = codes ".cfa: $rsp 8 + .ra: .cfa 8 - ^ $rbx: 1 $rbx: 2";
  deltas = record { address = 4; text = codes ".cfa: $rsp 16 +" } ∷ record { address = 6; text = codes ".cfa: $rsp 24 +" } ∷ [];
}

before : rule_of (rules_at span 3) (codes ".cfa") ≡ Some (codes "$rsp 8 +")
before = refl

replaced : rule_of (rules_at span 4) (codes ".cfa") ≡ Some (codes "$rsp 16 +")
replaced = refl

kept : rule_of (rules_at span 4) (codes ".ra") ≡ Some (codes ".cfa 8 - ^")
kept = refl

last : rule_of (rules_at span 4) (codes "$rbx") ≡ Some (codes "2")
last = refl
