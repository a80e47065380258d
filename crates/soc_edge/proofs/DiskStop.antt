-- What a stop leaves, write by write.
use Rattle.std.proofs.Common.{◌≡◌, ◌⊎◌, inl, inr, ℕ, zero, suc, ◌+◌, ◌-◌, ◌/◌, ◌%◌, ◌<◌, ◌≤◌, List, [], ◌∷◌, ◌++◌, length, take, drop, map, replicate, set, get_or, refl, sym, ◌∙◌, ap, subst, arith, Bool, true, false, nat_lt, ◌==◌, if◌then◌else◌}
use Rattle.std.proofs.lemmas.List.{length-take, length-drop, length-map, append_assoc, take_at, drop_at, drop-drop, drop_more, get_or_at, set_at, take_more, map_push, length-take-le, take_all, take_rest}
use Rattle.std.proofs.lemmas.Bool.Decides.{nat_tests}
use Rattle.soc_edge.specs.declared.memory.disk.DiskStep.{DiskStep}
use Rattle.soc_edge.specs.declared.memory.disk.DiskStep.TheVariants.{Write, Sync}
use Rattle.soc_edge.proofs.Disks.{drop-Tears}
use Rattle.soc_edge.specs.Disk.{written, Tears}
use Rattle.soc_edge.specs.inner.DiskLaws.{length-front, Tears-same, Tears-written}
use Rattle.soc_edge.specs.DiskLog.{IsImage, Made, Wrote, Synced, reads_as, stopped, Stopped, torn, flipped}
use Rattle.soc_edge.specs.inner.DiskEntries.{bytes_of, syncs_of, AllEnd, log_of}

-- writes that no sync has settled go on from what the ones before them left
pub stopped-unsettled : (first : List ℕ) (log : List Made) (entries : List DiskStep) (bytes : List ℕ) (choice : ℕ) → syncs_of entries ≡ 0
    → stopped first (log_of log entries bytes) choice ≡ stopped (stopped first log choice).image (log_of [] entries bytes) (stopped first log choice).choice
stopped-unsettled first log [] bytes choice none = refl
stopped-unsettled first log (Write place count ∷ entries) bytes choice none =
    let made = Wrote place (take count bytes) in
    let before = stopped first log choice in
    stopped-unsettled first (made ∷ log) entries (drop count bytes) choice none
    ∙ sym (stopped-unsettled before.image (made ∷ []) entries (drop count bytes) before.choice none)
stopped-unsettled first log (Sync ∷ entries) bytes choice none = absurd (omega arith)

some_or_none : (n : ℕ) → (n ≡ 0) ⊎ (0 < n)
some_or_none zero = inl refl
some_or_none (suc n) = inr (omega arith)

-- writes that a later sync settles are made
pub stopped-settled : (first : List ℕ) (log : List Made) (entries : List DiskStep) (bytes : List ℕ) (choice : ℕ) → 0 < syncs_of entries
    → stopped first (log_of log entries bytes) choice ≡ stopped (reads_as first log) (log_of [] entries bytes) choice
stopped-settled first log [] bytes choice some = absurd (omega arith)
stopped-settled first log (Write place count ∷ entries) bytes choice some =
    let made = Wrote place (take count bytes) in
    stopped-settled first (made ∷ log) entries (drop count bytes) choice some
    ∙ sym (stopped-settled (reads_as first log) (made ∷ []) entries (drop count bytes) choice some)
stopped-settled first log (Sync ∷ entries) bytes choice some =
    elim (some_or_none (syncs_of entries)) [
      | inl none ↦ stopped-unsettled first (Synced ∷ log) entries bytes choice none
          ∙ sym (stopped-unsettled (reads_as first log) (Synced ∷ []) entries bytes choice none)
      | inr more ↦ stopped-settled first (Synced ∷ log) entries bytes choice more
          ∙ sym (stopped-settled (reads_as first log) (Synced ∷ []) entries bytes choice more)
    ]

-- one more byte is flipped
pub flipped-step : (f : ℕ → ℕ) (before now : List ℕ) (i : ℕ) → i < length before → now ≡ map f (take i before) ++ drop i before → set now i (f (get_or now i 0)) ≡ map f (take (i + 1) before) ++ drop (i + 1) before
flipped-step f before now i within is =
    let x = get_or before i 0 in
    let front = map f (take i before) in
    let rest = drop (i + 1) before in
    let count : length front ≡ i = length-map (take i before) f ∙ length-take-le i before (omega arith) in
    let whole : now ≡ front ++ (x ∷ rest) = is ∙ ap (λ (y : List ℕ). front ++ y) (drop_more before i 0 within) in
    let here : get_or now i 0 ≡ x = ap (λ (y : List ℕ). get_or y i 0) whole ∙ get_or_at front x rest 0 i count in
    ap (λ (n : ℕ). set now i (f n)) here
    ∙ (ap (λ (y : List ℕ). set y i (f x)) whole
    ∙ (set_at front x rest (f x) i count
    ∙ (sym (append_assoc front (f x ∷ []) rest)
    ∙ ap (λ (y : List ℕ). y ++ rest) (sym (ap (λ (y : List ℕ). map f y) (take_more before i 0 within) ∙ map_push f (take i before) x)))))

-- a list by its first element and the slice behind it
pub first-rest : {X : Type 0} (xs : List X) (d x : X) → get_or xs 0 d ≡ x → 1 ≤ length xs → xs ≡ x ∷ take (length xs - 1) (drop 1 xs)
first-rest [] d x is some = absurd (omega arith)
first-rest {X} (y ∷ ys) d x is some =
    let all : take (length (y ∷ ys) - 1) ys ≡ ys = take_all (length (y ∷ ys) - 1) ys (omega arith) in
    ap (λ (z : X). z ∷ ys) is ∙ ap (λ (zs : List X). x ∷ zs) (sym all)

none_below : (n : ℕ) → n ≡ 0 → nat_lt 0 n ≡ false
none_below n none = grind (arith, nat_tests)

some_below : (n : ℕ) → 0 < n → nat_lt 0 n ≡ true
some_below n some = grind (arith, nat_tests)

positive : (n : ℕ) → (n == 0) ≡ false → 0 < n
positive n other = grind (arith, nat_tests)

-- a write is played
pub played-write : (image next_image : List ℕ) (later : List DiskStep) (bytes : List ℕ) (place count choice next_choice syncs : ℕ)
    → syncs ≡ syncs_of later
    → next_image ≡ (if nat_lt 0 syncs then written image place (take count bytes) else torn (choice % 4) place (take count bytes) image)
    → next_choice ≡ (if nat_lt 0 syncs then choice else choice / 4)
    → stopped next_image (log_of [] later (drop count bytes)) next_choice ≡ stopped image (log_of [] (Write place count ∷ later) bytes) choice
played-write image next_image later bytes place count choice next_choice syncs counted image_is choice_is =
    let kept = written image place (take count bytes) in
    let left = torn (choice % 4) place (take count bytes) image in
    let rest = log_of [] later (drop count bytes) in
    elim (some_or_none syncs) [
      | inl none ↦
          let off = none_below syncs none in
          let x : next_image ≡ left = image_is ∙ ap (λ (b : Bool). if b then kept else left) off in
          let n : next_choice ≡ choice / 4 = choice_is ∙ ap (λ (b : Bool). if b then choice else choice / 4) off in
          ap (λ (y : List ℕ). stopped y rest next_choice) x
          ∙ (ap (λ (m : ℕ). stopped left rest m) n
          ∙ sym (stopped-unsettled image (Wrote place (take count bytes) ∷ []) later (drop count bytes) choice (sym counted ∙ none)))
      | inr some ↦
          let on = some_below syncs some in
          let more : 0 < syncs_of later = omega arith in
          let x : next_image ≡ kept = image_is ∙ ap (λ (b : Bool). if b then kept else left) on in
          let n : next_choice ≡ choice = choice_is ∙ ap (λ (b : Bool). if b then choice else choice / 4) on in
          ap (λ (y : List ℕ). stopped y rest next_choice) x
          ∙ (ap (λ (m : ℕ). stopped kept rest m) n
          ∙ sym (stopped-settled image (Wrote place (take count bytes) ∷ []) later (drop count bytes) choice more))
    ]

-- a sync is played
pub played-sync : (image : List ℕ) (later : List DiskStep) (bytes : List ℕ) (choice : ℕ) → stopped image (log_of [] later bytes) choice ≡ stopped image (log_of [] (Sync ∷ later) bytes) choice
played-sync image later bytes choice =
    elim (some_or_none (syncs_of later)) [
      | inl none ↦ sym (stopped-unsettled image (Synced ∷ []) later bytes choice none)
      | inr more ↦ sym (stopped-settled image (Synced ∷ []) later bytes choice more)
    ]

-- What holds before an entry is played, and after it
pub record Playing (target : Stopped) (room : ℕ) (image : List ℕ) (rest : List DiskStep) (bytes : List ℕ) (choice syncs : ℕ) : Type 0 where
  pub goes_on : stopped image (log_of [] rest bytes) choice ≡ target
  pub counted : syncs ≡ syncs_of rest
  pub ends : AllEnd room rest
  pub within : bytes_of rest ≤ length bytes

pub Playing-write : (target : Stopped) (room : ℕ) (image next_image : List ℕ) (rest : List DiskStep) (bytes : List ℕ) (place count choice next_choice syncs : ℕ)
    → Playing target room image rest bytes choice syncs
    → get_or rest 0 (Write 0 0) ≡ Write place count → 1 ≤ length rest
    → next_image ≡ (if nat_lt 0 syncs then written image place (take count bytes) else torn (choice % 4) place (take count bytes) image)
    → next_choice ≡ (if nat_lt 0 syncs then choice else choice / 4)
    → Playing target room next_image (take (length rest - 1) (drop 1 rest)) (take (length bytes - count) (drop count bytes)) next_choice syncs
Playing-write target room image next_image rest bytes place count choice next_choice syncs playing first some image_is choice_is =
    let later = take (length rest - 1) (drop 1 rest) in
    let whole : rest ≡ Write place count ∷ later = first-rest rest (Write 0 0) (Write place count) first some in
    let P : List DiskStep → Type 0 = λ x. Playing target room image x bytes choice syncs in
    let here : Playing target room image (Write place count ∷ later) bytes choice syncs = subst P whole playing in
    let all : take (length bytes - count) (drop count bytes) ≡ drop count bytes = take_rest bytes count in
    record {
      goes_on = ap (λ (x : List ℕ). stopped next_image (log_of [] later x) next_choice) all
          ∙ (played-write image next_image later bytes place count choice next_choice syncs here.counted image_is choice_is ∙ here.goes_on);
      counted = here.counted;
      ends = here.ends.1;
      within = omega (arith, here.within, ap (λ (x : List ℕ). length x) all, length-drop count bytes);
    }

pub Playing-sync : (target : Stopped) (room : ℕ) (image : List ℕ) (rest : List DiskStep) (bytes : List ℕ) (choice syncs : ℕ)
    → Playing target room image rest bytes choice syncs
    → get_or rest 0 (Write 0 0) ≡ Sync → 1 ≤ length rest
    → Playing target room image (take (length rest - 1) (drop 1 rest)) bytes choice (syncs - 1)
Playing-sync target room image rest bytes choice syncs playing first some =
    let later = take (length rest - 1) (drop 1 rest) in
    let whole : rest ≡ Sync ∷ later = first-rest rest (Write 0 0) Sync first some in
    let P : List DiskStep → Type 0 = λ x. Playing target room image x bytes choice syncs in
    let here : Playing target room image (Sync ∷ later) bytes choice syncs = subst P whole playing in
    record {
      goes_on = played-sync image later bytes choice ∙ here.goes_on;
      counted = omega (arith, here.counted);
      ends = here.ends;
      within = here.within;
    }

-- a first write ends within the room, and its bytes are there
pub Playing-room : (target : Stopped) (room : ℕ) (image : List ℕ) (rest : List DiskStep) (bytes : List ℕ) (place count choice syncs : ℕ)
    → Playing target room image rest bytes choice syncs
    → get_or rest 0 (Write 0 0) ≡ Write place count → 1 ≤ length rest
    → (place + count ≤ room) × (count ≤ length bytes)
Playing-room target room image rest bytes place count choice syncs playing first some =
    let later = take (length rest - 1) (drop 1 rest) in
    let whole : rest ≡ Write place count ∷ later = first-rest rest (Write 0 0) (Write place count) first some in
    let P : List DiskStep → Type 0 = λ x. Playing target room image x bytes choice syncs in
    let here : Playing target room image (Write place count ∷ later) bytes choice syncs = subst P whole playing in
    (here.ends.0, omega (arith, here.within))

pub Playing-some_sync : (target : Stopped) (room : ℕ) (image : List ℕ) (rest : List DiskStep) (bytes : List ℕ) (choice syncs : ℕ)
    → Playing target room image rest bytes choice syncs
    → get_or rest 0 (Write 0 0) ≡ Sync → 1 ≤ length rest → 1 ≤ syncs
Playing-some_sync target room image rest bytes choice syncs playing first some =
    let later = take (length rest - 1) (drop 1 rest) in
    let whole : rest ≡ Sync ∷ later = first-rest rest (Write 0 0) Sync first some in
    omega (arith, playing.counted, ap (λ (x : List DiskStep). syncs_of x) whole)

-- flipped in place is the same as written flipped
pub flipped-written : (content piece : List ℕ) (place : ℕ) → 0 < length piece
    → (let bytes = written content place piece in
    take place bytes ++ (map flipped (take (length piece) (drop place bytes)) ++ drop (place + length piece) bytes))
    ≡ written content place (map flipped piece)
flipped-written content [] place some = absurd (omega arith)
flipped-written content (b ∷ bs) place some =
    let piece = b ∷ bs in
    let front = take place content ++ replicate (place - length content) 0 in
    let back = drop (place + length piece) content in
    let bytes = front ++ (piece ++ back) in
    let count : length front ≡ place = length-front content place in
    let behind : drop place bytes ≡ piece ++ back = drop_at front (piece ++ back) place count in
    let middle : take (length piece) (drop place bytes) ≡ piece =
    ap (λ (x : List ℕ). take (length piece) x) behind ∙ take_at piece back (length piece) refl in
    let last : drop (place + length piece) bytes ≡ back =
    sym (drop-drop (length piece) place bytes) ∙ (ap (λ (x : List ℕ). drop (length piece) x) behind ∙ drop_at piece back (length piece) refl) in
    ap (λ (x : List ℕ). x ++ (map flipped (take (length piece) (drop place bytes)) ++ drop (place + length piece) bytes)) (take_at front (piece ++ back) place count)
    ∙ (ap (λ (x : List ℕ). front ++ (map flipped x ++ drop (place + length piece) bytes)) middle
    ∙ (ap (λ (x : List ℕ). front ++ (map flipped piece ++ x)) last
    ∙ ap (λ (n : ℕ). front ++ (map flipped piece ++ drop (place + n) content)) (sym (length-map piece flipped))))

-- a slice that was written back over a whole list
pub written-back : (bytes more : List ℕ) (len : ℕ) → length bytes ≡ len → take len (bytes ++ more) ≡ bytes
written-back bytes more len is = take_at bytes more len is

pub flipped-back : (content piece slice items now more : List ℕ) (place len : ℕ) (is_empty : Bool)
    → slice ≡ items → length slice ≡ len → items ≡ written content place piece
    → now ≡ take place slice ++ (map flipped (take (length piece) (drop place slice)) ++ drop (place + length piece) slice)
    → length now ≡ length slice
    → is_empty ≡ (length piece == 0) → is_empty ≡ false
    → take len (now ++ more) ≡ written content place (map flipped piece)
flipped-back content piece slice items now more place len is_empty same count put flip kept empty_is not_empty =
    let some : 0 < length piece = positive (length piece) (sym empty_is ∙ not_empty) in
    let whole : slice ≡ written content place piece = same ∙ put in
    written-back now more len (kept ∙ count)
    ∙ (flip
    ∙ (ap (λ (x : List ℕ). take place x ++ (map flipped (take (length piece) (drop place x)) ++ drop (place + length piece) x)) whole
    ∙ flipped-written content piece place some))

-- more of a range may be torn
Tears-wider : (place count wider : ℕ) (before after : List ℕ) → count ≤ wider → Tears place count before after → Tears place wider before after
Tears-wider place count wider before after more tears =
    let high : place + count ≤ place + wider = omega arith in
    record {
      front = tears.front;
      back = drop-Tears place count (place + wider) before after tears high;
      no_shorter = tears.no_shorter;
      no_longer = omega (arith, tears.no_longer);
    }

if_either : (P : List ℕ → Type 0) (b : Bool) (x y : List ℕ) → P x → P y → P (if b then x else y)
if_either P true x y here there = here
if_either P false x y here there = there

-- whatever a stop does to a write, it is torn at most
pub Tears-torn : (choice place : ℕ) (bytes content : List ℕ) → Tears place (length bytes) content (torn choice place bytes content)
Tears-torn choice place bytes content =
    let P : List ℕ → Type 0 = λ image. Tears place (length bytes) content image in
    let half = take (length bytes / 2) bytes in
    let fewer : length half ≤ length bytes = omega (arith, length-take (length bytes / 2) bytes) in
    let halved : P (written content place half) = Tears-wider place (length half) (length bytes) content (written content place half) fewer (Tears-written content place half) in
    let flip : P (written content place (map flipped bytes)) =
    (let Q : ℕ → Type 0 = λ n. Tears place n content (written content place (map flipped bytes)) in
    subst Q (length-map bytes flipped) (Tears-written content place (map flipped bytes))) in
    if_either P (choice == 0) content _ (Tears-same place (length bytes) content)
    (if_either P (choice == 1) (written content place bytes) _ (Tears-written content place bytes)
    (if_either P (choice == 2) (written content place half) (written content place (map flipped bytes)) halved flip))

-- what a stop leaves is an image
pub IsImage-stopped : (first : List ℕ) (log : List Made) (choice : ℕ) → IsImage first log (stopped first log choice).image
IsImage-stopped first [] choice = refl
IsImage-stopped first (Wrote place bytes ∷ log) choice =
    let before = stopped first log choice in
    (before.image, IsImage-stopped first log choice, Tears-torn (before.choice % 4) place bytes before.image)
IsImage-stopped first (Synced ∷ log) choice = refl

-- each write that was made ends within the room
abbrev pub MadeWithin : ℕ → List Made → Type 0
MadeWithin room [] = Unit {0}
MadeWithin room (Wrote place bytes ∷ log) = (place + length bytes ≤ room) × MadeWithin room log
MadeWithin room (Synced ∷ log) = MadeWithin room log

pub MadeWithin-log_of : (room : ℕ) (log : List Made) (entries : List DiskStep) (bytes : List ℕ) → MadeWithin room log → AllEnd room entries → MadeWithin room (log_of log entries bytes)
MadeWithin-log_of room log [] bytes made ends = made
MadeWithin-log_of room log (Write place count ∷ entries) bytes made ends =
    let low : place + length (take count bytes) ≤ room = omega (arith, length-take count bytes, ends.0) in
    MadeWithin-log_of room (Wrote place (take count bytes) ∷ log) entries (drop count bytes) (low, made) ends.1
MadeWithin-log_of room log (Sync ∷ entries) bytes made ends = MadeWithin-log_of room (Synced ∷ log) entries bytes made ends

pub length-reads_as : (room : ℕ) (first : List ℕ) (log : List Made) → length first ≤ room → MadeWithin room log → length (reads_as first log) ≤ room
length-reads_as room first [] low made = low
length-reads_as room first (Wrote place bytes ∷ log) low made =
    omega (arith, (Tears-written (reads_as first log) place bytes).no_longer, length-reads_as room first log low made.1, made.0)
length-reads_as room first (Synced ∷ log) low made = length-reads_as room first log low made

pub length-stopped : (room : ℕ) (first : List ℕ) (log : List Made) (choice : ℕ) → length first ≤ room → MadeWithin room log → length (stopped first log choice).image ≤ room
length-stopped room first [] choice low made = low
length-stopped room first (Wrote place bytes ∷ log) choice low made =
    let before = stopped first log choice in
    omega (arith, (Tears-torn (before.choice % 4) place bytes before.image).no_longer, length-stopped room first log choice low made.1, made.0)
length-stopped room first (Synced ∷ log) choice low made = length-reads_as room first log low made

pub AllEnd-wider : (room wider : ℕ) (entries : List DiskStep) → room ≤ wider → AllEnd room entries → AllEnd wider entries
AllEnd-wider room wider [] more ends = tt
AllEnd-wider room wider (Write place count ∷ entries) more ends = (omega (arith, ends.0), AllEnd-wider room wider entries more ends.1)
AllEnd-wider room wider (Sync ∷ entries) more ends = AllEnd-wider room wider entries more ends

-- what a stop leaves fits the room
pub stopped-fits : (room : ℕ) (first image : List ℕ) (entries same_entries : List DiskStep) (bytes same_bytes : List ℕ) (choice : ℕ)
    → same_entries ≡ entries → same_bytes ≡ bytes → image ≡ (stopped first (log_of [] same_entries same_bytes) choice).image
    → length first ≤ room → AllEnd room entries → length image ≤ room
stopped-fits room first image entries same_entries bytes same_bytes choice entries_are bytes_are image_is low ends =
    let whole : image ≡ (stopped first (log_of [] entries bytes) choice).image =
    image_is ∙ (ap (λ (x : List DiskStep). (stopped first (log_of [] x same_bytes) choice).image) entries_are
    ∙ ap (λ (x : List ℕ). (stopped first (log_of [] entries x) choice).image) bytes_are) in
    omega (
      arith,
      ap (λ (x : List ℕ). length x) whole,
      length-stopped room first (log_of [] entries bytes) choice low (MadeWithin-log_of room [] entries bytes tt ends),
    )
