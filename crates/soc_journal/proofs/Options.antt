-- Facts for one variant of an answer.
use Rattle.std.proofs.Common.{Option, Some, None, Result, Ok, Err, OnErr, IfSome}

pub OnErr-always : {T E : Type 0} (answer : Result T E) (P : Type 0) → P → OnErr answer P
OnErr-always (Ok x) P holds = tt
OnErr-always (Err e) P holds = holds

pub IfSome-always : {T : Type 0} (told : Option T) (P : T → Type 0) → ((x : T) → P x) → IfSome told P
IfSome-always None P all = tt
IfSome-always (Some x) P all = all x

pub IfSome_both : {T : Type 0} (told : Option T) {P Q R : T → Type 0} → IfSome told P → IfSome told Q → ((x : T) → P x → Q x → R x) → IfSome told R
IfSome_both None p q both = tt
IfSome_both (Some x) p q both = both x p q
