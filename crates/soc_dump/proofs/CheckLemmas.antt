-- The first refusal of checks that follow one another.
use Rattle.std.proofs.Common.{◌≡◌, List, [], ◌∷◌, ◌++◌, Option, None, Some, Result, Ok, Err, refl, ◌∙◌}
use Rattle.soc_dump.specs.declared.error.DumpError.{DumpError}
use Rattle.soc_dump.specs.declared.error.DumpError.TheVariants.{NoMagic, BadVersion, OutOfFile, BadStream, TwoStreams, NoMemory}
use Rattle.soc_dump.specs.Checks.{Check, first_refusal, IsRefusal, IsRead}

pub first_refusal-append_none : (front back : List Check) → first_refusal front ≡ None → first_refusal (front ++ back) ≡ first_refusal back
first_refusal-append_none [] back none = refl
first_refusal-append_none (None ∷ front) back none = first_refusal-append_none front back none
first_refusal-append_none (Some refusal ∷ front) back none = cc

pub first_refusal-append_some : (front back : List Check) (refusal : DumpError) → first_refusal front ≡ Some refusal
    → first_refusal (front ++ back) ≡ Some refusal
first_refusal-append_some [] back refusal some = cc
first_refusal-append_some (None ∷ front) back refusal some = first_refusal-append_some front back refusal some
first_refusal-append_some (Some other ∷ front) back refusal some = some

-- a refusal that is found in one place is found in another that finds what the first finds
pub IsRefusal-along : (refusal : DumpError) (here there : Option DumpError) → IsRefusal refusal here
    → ((found : DumpError) → here ≡ Some found → there ≡ Some found) → IsRefusal refusal there
IsRefusal-along NoMemory here there is along = tt
IsRefusal-along (NoMagic place) here there is along = along _ is
IsRefusal-along (BadVersion place) here there is along = along _ is
IsRefusal-along (OutOfFile place) here there is along = along _ is
IsRefusal-along (BadStream kind place) here there is along = along _ is
IsRefusal-along (TwoStreams kind place) here there is along = along _ is

pub refused_first : (refusal : DumpError) (front back : List Check) → IsRefusal refusal (first_refusal front)
    → IsRefusal refusal (first_refusal (front ++ back))
refused_first refusal front back is = IsRefusal-along refusal _ _ is (first_refusal-append_some front back)

pub refused_next : (refusal : DumpError) (front back : List Check) → first_refusal front ≡ None → IsRefusal refusal (first_refusal back)
    → IsRefusal refusal (first_refusal (front ++ back))
refused_next refusal front back none is = rw (first_refusal-append_none front back none) is

pub none_next : (front back : List Check) → first_refusal front ≡ None → first_refusal back ≡ None
    → first_refusal (front ++ back) ≡ None
none_next front back none rest = first_refusal-append_none front back none ∙ rest

-- the same behind several lists whose checks all hold
pub refused_second : (refusal : DumpError) (a b rest : List Check) → first_refusal a ≡ None → IsRefusal refusal (first_refusal b)
    → IsRefusal refusal (first_refusal (a ++ (b ++ rest)))
refused_second refusal a b rest first is = refused_next refusal a (b ++ rest) first (refused_first refusal b rest is)

pub refused_third : (refusal : DumpError) (a b c rest : List Check) → first_refusal a ≡ None → first_refusal b ≡ None
    → IsRefusal refusal (first_refusal c) → IsRefusal refusal (first_refusal (a ++ (b ++ (c ++ rest))))
refused_third refusal a b c rest first second is =
    refused_next refusal a (b ++ (c ++ rest)) first (refused_second refusal b c rest second is)

pub refused_fourth : (refusal : DumpError) (a b c d rest : List Check) → first_refusal a ≡ None → first_refusal b ≡ None
    → first_refusal c ≡ None → IsRefusal refusal (first_refusal d) → IsRefusal refusal (first_refusal (a ++ (b ++ (c ++ (d ++ rest)))))
refused_fourth refusal a b c d rest first second third is =
    refused_next refusal a (b ++ (c ++ (d ++ rest))) first (refused_third refusal b c d rest second third is)

pub refused_fifth : (refusal : DumpError) (a b c d e : List Check) → first_refusal a ≡ None → first_refusal b ≡ None
    → first_refusal c ≡ None → first_refusal d ≡ None → IsRefusal refusal (first_refusal e)
    → IsRefusal refusal (first_refusal (a ++ (b ++ (c ++ (d ++ e)))))
refused_fifth refusal a b c d e first second third fourth is =
    refused_next refusal a (b ++ (c ++ (d ++ e))) first (refused_next refusal b (c ++ (d ++ e)) second
    (refused_next refusal c (d ++ e) third (refused_next refusal d e fourth is)))

pub none_fifth : (a b c d e : List Check) → first_refusal a ≡ None → first_refusal b ≡ None → first_refusal c ≡ None
    → first_refusal d ≡ None → first_refusal e ≡ None → first_refusal (a ++ (b ++ (c ++ (d ++ e)))) ≡ None
none_fifth a b c d e first second third fourth fifth =
    none_next a (b ++ (c ++ (d ++ e))) first (none_next b (c ++ (d ++ e)) second
    (none_next c (d ++ e) third (none_next d e fourth fifth)))

-- what is read behind checks that all hold
pub read_behind : {X : Type 0} (answer : Result X DumpError) (front back : List Check) (P : X → Type 0) → first_refusal front ≡ None
    → IsRead answer back P → IsRead answer (front ++ back) P
read_behind (Ok value) front back P none is = (none_next front back none is.0, is.1)
read_behind (Err refusal) front back P none is = refused_next refusal front back none is
