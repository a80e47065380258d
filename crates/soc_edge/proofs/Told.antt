-- That appends and reads go on: of told content, one step after another.
use Rattle.std.proofs.Common.{◌≡◌, ℕ, ◌+◌, ◌-◌, ◌<◌, ◌≤◌, List, [], ◌++◌, length, take, drop, Option, Some, None, refl, sym, subst, ◌∙◌, ap, append_assoc, arith, length-append}
use Rattle.std.proofs.lemmas.List.{append-nil, take_at, take-append-drop, drop-drop, take_rest, length-take-le, take-append-le}
use Rattle.std.proofs.Math.Seq.{take-add, take-append-add}
use Rattle.std.specs.Io.KnownBytes.{append_known, prepend_known}
use Rattle.soc_edge.specs.Told.{Told, OnlyReads, OnlyWrites, NeverFall, Gives, Takes, TakesFront, Reads, Writes, WritesFront}

append_known-nil : (told : Option (List ℕ)) → append_known told [] ≡ told
append_known-nil None = refl
append_known-nil (Some bytes) = ap (λ (b : List ℕ). Some b) (append-nil bytes)

append_known-append : (told : Option (List ℕ)) (a b : List ℕ) → append_known (append_known told a) b ≡ append_known told (a ++ b)
append_known-append None a b = refl
append_known-append (Some bytes) a b = ap (λ (x : List ℕ). Some x) (append_assoc bytes a b)

prepend_known-nil : (told : Option (List ℕ)) → prepend_known [] told ≡ told
prepend_known-nil None = refl
prepend_known-nil (Some bytes) = refl

prepend_known-append : (told : Option (List ℕ)) (a b : List ℕ) → prepend_known a (prepend_known b told) ≡ prepend_known (a ++ b) told
prepend_known-append None a b = refl
prepend_known-append (Some bytes) a b = ap (λ (x : List ℕ). Some x) (sym (append_assoc a b bytes))

-- a sink that is as it was took nothing
pub Takes-none : (before after : Option (List ℕ)) → after ≡ before → Takes before after []
Takes-none before after same = same ∙ sym (append_known-nil before)

-- writes go on: what one took, and then what the next one took
pub Takes-append : (before middle after : Option (List ℕ)) (a b : List ℕ) → Takes before middle a → Takes middle after b → Takes before after (a ++ b)
Takes-append before middle after a b first then =
    then ∙ (ap (λ (told : Option (List ℕ)). append_known told b) first ∙ append_known-append before a b)

-- nothing more was taken
pub Takes-same : (before middle after : Option (List ℕ)) (a : List ℕ) → Takes before middle a → after ≡ middle → Takes before after a
Takes-same before middle after a first same = same ∙ first

-- nothing was taken before
pub Takes-later : (before middle after : Option (List ℕ)) (a : List ℕ) → middle ≡ before → Takes middle after a → Takes before after a
Takes-later before middle after a same then = then ∙ ap (λ (told : Option (List ℕ)). append_known told a) same

-- what a sink holds after it took these bytes, where it is told
pub Takes-told : (held : List ℕ) (before after : Option (List ℕ)) (a : List ℕ) → before ≡ Some held → Takes before after a → after ≡ Some (held ++ a)
Takes-told held before after a told takes = takes ∙ ap (λ (x : Option (List ℕ)). append_known x a) told

-- a source that is as it was gave nothing
pub Gives-none : (before after : Option (List ℕ)) → after ≡ before → Gives before after []
Gives-none before after same = sym same ∙ sym (prepend_known-nil after)

-- reads go on: what one gave, and then what the next one gave
pub Gives-append : (before middle after : Option (List ℕ)) (a b : List ℕ) → Gives before middle a → Gives middle after b → Gives before after (a ++ b)
Gives-append before middle after a b first then =
    first ∙ (ap (λ (told : Option (List ℕ)). prepend_known a told) then ∙ prepend_known-append after a b)

-- nothing more was given
pub Gives-same : (before middle after : Option (List ℕ)) (a : List ℕ) → Gives before middle a → after ≡ middle → Gives before after a
Gives-same before middle after a first same = first ∙ ap (λ (told : Option (List ℕ)). prepend_known a told) (sym same)

-- nothing was given before
pub Gives-later : (before middle after : Option (List ℕ)) (a : List ℕ) → middle ≡ before → Gives middle after a → Gives before after a
Gives-later before middle after a same then = sym same ∙ then

OnlyReads-append : (before middle after : Told) → OnlyReads before middle → OnlyReads middle after → OnlyReads before after
OnlyReads-append before middle after first then = record {
  held_stays = then.held_stays ∙ first.held_stays;
  reads_never_fall = omega arith;
  write_faults_stay = then.write_faults_stay ∙ first.write_faults_stay;
}

OnlyWrites-append : (before middle after : Told) → OnlyWrites before middle → OnlyWrites middle after → OnlyWrites before after
OnlyWrites-append before middle after first then = record {
  left_stays = then.left_stays ∙ first.left_stays;
  read_faults_stay = then.read_faults_stay ∙ first.read_faults_stay;
  writes_never_fall = omega arith;
}

pub NeverFall-append : (before middle after : Told) → NeverFall before middle → NeverFall middle after → NeverFall before after
NeverFall-append before middle after first then = record { reads = omega arith; writes = omega arith }

-- nothing was read
pub Reads-none : (told : Told) → Reads told told []
Reads-none told = record {
  gives = Gives-none told.left told.left refl;
  only = record { held_stays = refl; reads_never_fall = omega arith; write_faults_stay = refl };
}

-- reads, and then more
pub Reads-append : (before middle after : Told) (a b : List ℕ) → Reads before middle a → Reads middle after b → Reads before after (a ++ b)
Reads-append before middle after a b first then = record {
  gives = Gives-append before.left middle.left after.left a b first.gives then.gives;
  only = OnlyReads-append before middle after first.only then.only;
}

-- nothing was written
pub Writes-none : (told : Told) → Writes told told []
Writes-none told = record {
  takes = Takes-none told.held told.held refl;
  only = record { left_stays = refl; read_faults_stay = refl; writes_never_fall = omega arith };
}

-- writes, and then more
pub Writes-append : (before middle after : Told) (a b : List ℕ) → Writes before middle a → Writes middle after b → Writes before after (a ++ b)
Writes-append before middle after a b first then = record {
  takes = Takes-append before.held middle.held after.held a b first.takes then.takes;
  only = OnlyWrites-append before middle after first.only then.only;
}

-- what a read copied to the front of the buffer, and then what is left behind it
pub copied-front : (bytes copied rest : List ℕ) (at n : ℕ) → length copied ≡ n → copied ≡ take n (drop at bytes) → drop at bytes ≡ take n (copied ++ rest) ++ drop (at + n) bytes
copied-front bytes copied rest at n len front =
    sym (take-append-drop n (drop at bytes))
    ∙ (ap (λ (x : List ℕ). x ++ drop n (drop at bytes)) (sym (take_at copied rest n len ∙ front))
    ∙ ap (λ (x : List ℕ). take n (copied ++ rest) ++ x) (drop-drop n at bytes))

-- one more write of a front of what is left of a piece
pub Writes-more : (before middle after : Told) (bytes rest : List ℕ) (at n : ℕ) → rest ≡ drop at bytes → Writes before middle (take at bytes) → Writes middle after (take n rest) → Writes before after (take (at + n) bytes)
Writes-more before middle after bytes rest at n is first then =
    subst (Writes before after) (ap (λ (x : List ℕ). take at bytes ++ take n x) is ∙ sym (take-add at n bytes))
    (Writes-append before middle after (take at bytes) (take n rest) first then)

-- a write that failed leaves what the ones before it wrote
pub WritesFront-failed : (before middle after : Told) (bytes : List ℕ) (at : ℕ) → at < length bytes → Writes before middle (take at bytes) → Writes middle after [] → WritesFront before after bytes
WritesFront-failed before middle after bytes at less first none =
    let all : Writes before after (take at bytes ++ []) = Writes-append before middle after (take at bytes) [] first none in
    record {
      front = record { count = at; not_all = less; takes = subst (Takes before.held after.held) (append-nil (take at bytes)) all.takes };
      only = all.only;
    }

-- a front of bytes that go on
pub TakesFront-longer : (before after : Option (List ℕ)) (bytes more : List ℕ) → TakesFront before after bytes → TakesFront before after (bytes ++ more)
TakesFront-longer before after bytes more front =
    let less : front.count < length bytes = front.not_all in
    let within : front.count ≤ length bytes = omega arith in
    record {
      count = front.count;
      not_all = omega (arith, length-append bytes more);
      takes = subst (Takes before after) (sym (take-append-le front.count bytes more within)) front.takes;
    }

-- a front behind bytes that were taken whole
pub TakesFront-behind : (before middle after : Option (List ℕ)) (bytes more : List ℕ) → Takes before middle bytes → TakesFront middle after more → TakesFront before after (bytes ++ more)
TakesFront-behind before middle after bytes more taken front =
    let less : front.count < length more = front.not_all in
    record {
      count = length bytes + front.count;
      not_all = omega (arith, length-append bytes more);
      takes = subst (Takes before after) (sym (take-append-add bytes more front.count)) (Takes-append before middle after bytes (take front.count more) taken front.takes);
    }

-- a front of bytes that go on
pub WritesFront-longer : (before after : Told) (bytes more : List ℕ) → WritesFront before after bytes → WritesFront before after (bytes ++ more)
WritesFront-longer before after bytes more front =
    record { front = TakesFront-longer before.held after.held bytes more front.front; only = front.only }

-- a front behind bytes that were taken whole
pub WritesFront-behind : (before middle after : Told) (bytes more : List ℕ) → Writes before middle bytes → WritesFront middle after more → WritesFront before after (bytes ++ more)
WritesFront-behind before middle after bytes more first then = record {
  front = TakesFront-behind before.held middle.held after.held bytes more first.takes then.front;
  only = OnlyWrites-append before middle after first.only then.only;
}

-- the same of a slice of the bytes, as a read finds it
pub copied-left : (left bytes slice copied room : List ℕ) (at n : ℕ) → left ≡ drop at bytes → slice ≡ bytes → copied ≡ take n (take (length slice - at) (drop at slice)) → length copied ≡ length (take n room) → n ≤ length room → Some left ≡ Some (take n (copied ++ drop n room) ++ drop (at + n) bytes)
copied-left left bytes slice copied room at n is same front len fits =
    let given : copied ≡ take n (drop at bytes) = front ∙ (ap (λ (x : List ℕ). take n x) (take_rest slice at) ∙ ap (λ (x : List ℕ). take n (drop at x)) same) in
    let count : length copied ≡ n = len ∙ length-take-le n room fits in
    ap (λ (x : List ℕ). Some x) (is ∙ copied-front bytes copied (drop n room) at n count given)
