-- What a signature shows of a text: its first characters, with its blanks as a signature has them.
use Rattle.std.proofs.Common.{◌≡◌, ℕ, zero, suc, ◌+◌, ◌-◌, ◌<◌, ◌≤◌, ◌==◌, Bool, true, false, cond, List, [], ◌∷◌, ◌++◌, length, Option, Some, None, refl, sym, ap, ◌∙◌, arith, append_assoc, append-nil, subst, true≢false, ◌⊎◌, inl, inr}
use Rattle.std.specs.Prelude.{⊤, codes, nat_le, nat_lt, option_map, filter}
use Rattle.std.specs.Option.{option_map_or}
use Rattle.std.specs.List.{AllByRecursion, flat_map, slice_split, onto_first}
use Rattle.std.specs.Str.Parse.{digits_value}
use Rattle.std.proofs.lemmas.Bool.Decides.{nat_tests}
use Rattle.std.proofs.lemmas.List.Concat.{flat_map-append}
use Rattle.std.proofs.lemmas.List.Splits.{slice_split-cons_no}
use Rattle.soc_siglists.specs.Lists.{ListTexts}
use Rattle.soc_sigrules.specs.declared.crash.Marked.{Marked}
use Rattle.soc_sigrules.specs.declared.input.SigInput.{SigInput}
use Rattle.soc_sigrules.specs.declared.rule.Rule.{Rule}
use Rattle.soc_sigrules.specs.declared.rule.Rule.TheVariants.{OutOfMemory, Abort, Shutdown, ShutdownHang, Ipc, StackOverflow, Hang, BadHardware, Spaces, Cut}
use Rattle.soc_sigrules.specs.Chars.{begins_char, char_count, first_chars, is_longer, at_most, cut, joined}
use Rattle.soc_sigrules.specs.Spaces.{is_gap, words, spaced}
use Rattle.soc_sigrules.specs.Stacks.{separator, text_of}
use Rattle.soc_sigrules.specs.Rules.{apply, is_size, memory_text, abort_text, only_if, noted, note_of, after_rule, after_all, after_rules}
use Rattle.soc_sigrules.specs.Signatures.{stack_state}
use Rattle.soc_sigrules.specs.inner.Fronts.{front_text}
use Rattle.soc_sigrules.proofs.CharLemmas.{chars_yes, chars_end, chars_no, le_or_lt, whole, fills, first_chars-append, first_chars-full}
use Rattle.soc_sigrules.proofs.FrontLemmas.{some_chars, some_last}
use Rattle.soc_sigrules.proofs.WordLemmas.{HasNoGap, IsWord, AllWords, all_words, words-append, one_word}

-- ---- fewer characters of what was cut

ends_at : (n byte : ℕ) (rest : List ℕ) (z : Bool) → begins_char byte ≡ true → (n == 0) ≡ z → first_chars 0 (first_chars n (byte ∷ rest)) ≡ []
ends_at n byte rest true begins none =
    let is : n ≡ 0 = grind (arith, nat_tests) in
    ap (λ k. first_chars 0 (first_chars k (byte ∷ rest))) is ∙ ap (first_chars 0) (chars_end byte rest begins)
ends_at n byte rest false begins some =
    let positive : 0 < n = grind (arith, nat_tests) in
    ap (first_chars 0) (chars_yes byte rest n begins positive) ∙ chars_end byte (first_chars (n - 1) rest) begins

fewer-step : (b z : Bool) (m n byte : ℕ) (rest : List ℕ) → begins_char byte ≡ b → (m == 0) ≡ z → m ≤ n
    → ((k l : ℕ) → k ≤ l → first_chars k (first_chars l rest) ≡ first_chars k rest) → first_chars m (first_chars n (byte ∷ rest)) ≡ first_chars m (byte ∷ rest)
fewer-step true true m n byte rest begins none below more =
    let is : m ≡ 0 = grind (arith, nat_tests) in
    ap (λ k. first_chars k (first_chars n (byte ∷ rest))) is ∙ ends_at n byte rest (n == 0) begins refl
    ∙ sym (ap (λ k. first_chars k (byte ∷ rest)) is ∙ chars_end byte rest begins)
fewer-step true false m n byte rest begins some below more =
    let positive : 0 < m = grind (arith, nat_tests) in
    ap (first_chars m) (chars_yes byte rest n begins (omega arith))
    ∙ chars_yes byte (first_chars (n - 1) rest) m begins positive
    ∙ ap (λ (xs : List ℕ). byte ∷ xs) (more (m - 1) (n - 1) (omega arith))
    ∙ sym (chars_yes byte rest m begins positive)
fewer-step false z m n byte rest inside is below more =
    ap (first_chars m) (chars_no byte rest n inside)
    ∙ chars_no byte (first_chars n rest) m inside
    ∙ ap (λ (xs : List ℕ). byte ∷ xs) (more m n below)
    ∙ sym (chars_no byte rest m inside)

fewer : (text : List ℕ) (m n : ℕ) → m ≤ n → first_chars m (first_chars n text) ≡ first_chars m text
fewer [] m n below = refl
fewer (byte ∷ rest) m n below = fewer-step (begins_char byte) (m == 0) m n byte rest refl refl below (λ k l. fewer rest k l)

-- the same characters are the same where fewer count
fewer_same : (m n : ℕ) (a b : List ℕ) → m ≤ n → first_chars n a ≡ first_chars n b → first_chars m a ≡ first_chars m b
fewer_same m n a b below same = sym (fewer a m n below) ∙ ap (first_chars m) same ∙ fewer b m n below

same-behind : (n : ℕ) (front a b : List ℕ) → (char_count front ≤ n) ⊎ (n < char_count front) → first_chars n a ≡ first_chars n b → first_chars n (front ++ a) ≡ first_chars n (front ++ b)
same-behind n front a b (inl fits) same =
    first_chars-append n front a fits
    ∙ ap (λ (xs : List ℕ). front ++ xs) (fewer_same (n - char_count front) n a b (omega arith) same)
    ∙ sym (first_chars-append n front b fits)
same-behind n front a b (inr full) same = first_chars-full n front a full ∙ sym (first_chars-full n front b full)

-- ---- words behind other words

abbrev behind : List (List ℕ) → List ℕ
behind list = flat_map (λ word. codes " " ++ word) list

joined-append : (word : List ℕ) (list more : List (List ℕ)) → joined (codes " ") ((word ∷ list) ++ more) ≡ joined (codes " ") (word ∷ list) ++ behind more
joined-append word list more =
    ap (λ (xs : List ℕ). word ++ xs) (flat_map-append (λ w. codes " " ++ w) list more) ∙ sym (append_assoc word (behind list) (behind more))

behind-same : (list other : List (List ℕ)) → AllWords list → AllWords other → first_chars 256 (joined (codes " ") list) ≡ first_chars 256 (joined (codes " ") other)
    → first_chars 256 (behind list) ≡ first_chars 256 (behind other)
behind-same [] [] all others same = refl
behind-same [] (word ∷ other) all others same =
    absurd (true≢false (ap (λ (xs : List ℕ). length xs == 0) same ∙ some_chars 256 word _ (omega arith) others.0))
behind-same (word ∷ list) [] all others same =
    absurd (true≢false (ap (λ (xs : List ℕ). length xs == 0) (sym same) ∙ some_chars 256 word _ (omega arith) all.0))
behind-same (word ∷ list) (word' ∷ other) all others same =
    ap (λ (xs : List ℕ). 32 ∷ xs) (fewer_same 255 256 (joined (codes " ") (word ∷ list)) (joined (codes " ") (word' ∷ other)) (omega arith) same)

words-same : (front list other : List (List ℕ)) → AllWords list → AllWords other → first_chars 256 (joined (codes " ") list) ≡ first_chars 256 (joined (codes " ") other)
    → first_chars 256 (joined (codes " ") (front ++ list)) ≡ first_chars 256 (joined (codes " ") (front ++ other))
words-same [] list other all others same = same
words-same (word ∷ front) list other all others same =
    let text = joined (codes " ") (word ∷ front) in
    ap (first_chars 256) (joined-append word front list)
    ∙ same-behind 256 text (behind list) (behind other) (le_or_lt (char_count text) 256) (behind-same list other all others same)
    ∙ ap (first_chars 256) (sym (joined-append word front other))

-- ---- texts of which a signature shows the same

abbrev pub Shows : List ℕ → List ℕ → Type 0
Shows a b = first_chars 256 (spaced a) ≡ first_chars 256 (spaced b)

shows-behind : (front a b : List ℕ) → Shows a b → Shows (front ++ 32 ∷ a) (front ++ 32 ∷ b)
shows-behind front a b same =
    ap (λ (list : List (List ℕ)). first_chars 256 (joined (codes " ") list)) (words-append front 32 a refl)
    ∙ words-same (words front) (words a) (words b) (all_words a) (all_words b) same
    ∙ ap (λ (list : List (List ℕ)). first_chars 256 (joined (codes " ") list)) (sym (words-append front 32 b refl))

-- ---- the rules that put a front before the text

abbrev BothShow : Option (List ℕ) → Option (List ℕ) → Type 0
BothShow None None = ⊤
BothShow None (Some b) = ⊥
BothShow (Some a) None = ⊥
BothShow (Some a) (Some b) = Shows a b

abbrev IsFront : Rule → Type 0
IsFront rule = (watched : Bool) (input : SigInput) (a b : List ℕ) → Shows a b → BothShow (apply watched input rule a) (apply watched input rule b)

map-shows : {X : Type 0} (o : Option X) (f g : X → List ℕ) → ((x : X) → Shows (f x) (g x)) → BothShow (option_map f o) (option_map g o)
map-shows None f g same = tt
map-shows (Some x) f g same = same x

if-shows : (test : Bool) (a b : List ℕ) → Shows a b → BothShow (only_if test a) (only_if test b)
if-shows true a b same = same
if-shows false a b same = tt

memory-shows : (is_number small : Bool) (a b : List ℕ) → Shows a b
    → Shows (cond is_number (cond small (codes "OOM | small") (codes "OOM | large | " ++ a)) (codes "OOM | unknown | " ++ a))
    (cond is_number (cond small (codes "OOM | small") (codes "OOM | large | " ++ b)) (codes "OOM | unknown | " ++ b))
memory-shows true true a b same = refl
memory-shows true false a b same = shows-behind (codes "OOM | large |") a b same
memory-shows false small a b same = shows-behind (codes "OOM | unknown |") a b same

out_of_memory : IsFront OutOfMemory
out_of_memory watched input a b same =
    map-shows input.oom (λ size. memory_text size a) (λ size. memory_text size b)
    (λ size. memory-shows (is_size size) (nat_le (digits_value 10 size) 262144) a b same)

abort-front : (message text : List ℕ) → (codes "Abort | " ++ (message ++ codes " |")) ++ 32 ∷ text ≡ codes "Abort | " ++ (message ++ (codes " | " ++ text))
abort-front message text = ap (λ (xs : List ℕ). codes "Abort | " ++ xs) (append_assoc message (codes " |") (32 ∷ text))

abort : IsFront Abort
abort watched input a b same =
    map-shows input.abort (λ message. abort_text message a) (λ message. abort_text message b)
    (λ message.
    let front = codes "Abort | " ++ (at_most 80 message ++ codes " |") in
    ap (λ (t : List ℕ). first_chars 256 (spaced t)) (sym (abort-front (at_most 80 message) a))
    ∙ shows-behind front a b same
    ∙ ap (λ (t : List ℕ). first_chars 256 (spaced t)) (abort-front (at_most 80 message) b))

shutdown : IsFront Shutdown
shutdown watched input a b same = map-shows input.shutdown _ _ (λ description. refl)

shutdown_hang : IsFront ShutdownHang
shutdown_hang watched input a b same = if-shows watched (codes "shutdownhang | " ++ a) (codes "shutdownhang | " ++ b) (shows-behind (codes "shutdownhang |") a b same)

ipc : IsFront Ipc
ipc watched input a b same = map-shows input.ipc _ _ (λ error. refl)

stack_overflow : IsFront StackOverflow
stack_overflow watched input a b same =
    if-shows input.overflow (codes "stackoverflow | " ++ a) (codes "stackoverflow | " ++ b) (shows-behind (codes "stackoverflow |") a b same)

hang : IsFront Hang
hang watched input a b same = if-shows input.hang (codes "hang | " ++ a) (codes "hang | " ++ b) (shows-behind (codes "hang |") a b same)

bad_hardware : IsFront BadHardware
bad_hardware watched input a b same =
    if-shows input.bad_hardware (codes "bad hardware | " ++ a) (codes "bad hardware | " ++ b) (shows-behind (codes "bad hardware |") a b same)

-- ---- one rule after another

abbrev MarkedShow : Marked → Marked → Type 0
MarkedShow a b = Shows a.text b.text × (a.notes ≡ b.notes)

option-step : (note : List (List ℕ)) (a b : Marked) (o p : Option (List ℕ)) → BothShow o p → MarkedShow a b
    → MarkedShow (option_map_or (λ text. record { text = text; notes = a.notes ++ note }) o a) (option_map_or (λ text. record { text = text; notes = b.notes ++ note }) p b)
option-step note a b None None same so_far = so_far
option-step note a b None (Some t) same so_far = absurd same
option-step note a b (Some s) None same so_far = absurd same
option-step note a b (Some s) (Some t) same so_far = (same, ap (λ (notes : List (List ℕ)). notes ++ note) so_far.1)

fronts-then : (watched : Bool) (input : SigInput) (fronts rest : List Rule) → ((a b : Marked) → MarkedShow a b → after_all watched input a rest ≡ after_all watched input b rest)
    → AllByRecursion IsFront fronts → (a b : Marked) → MarkedShow a b → after_all watched input a (fronts ++ rest) ≡ after_all watched input b (fronts ++ rest)
unfolding after_all
fronts-then watched input [] rest ends all a b so_far = ends a b so_far
fronts-then watched input (rule ∷ fronts) rest ends all a b so_far =
    fronts-then watched input fronts rest ends all.1 (after_rule watched input a rule) (after_rule watched input b rule)
    (option-step (noted (note_of rule)) a b (apply watched input rule a.text) (apply watched input rule b.text) (all.0 watched input a.text b.text so_far.0) so_far)

-- ---- what is shown is all that counts where the text is cut

longer_by : (text : List ℕ) → (char_count text ≤ 256) ⊎ (256 < char_count text) → is_longer 255 text ≡ is_longer 255 (first_chars 256 text)
longer_by text (inl fits) = ap (is_longer 255) (sym (whole 256 text fits))
longer_by text (inr long) =
    let cut_count = (fills text [] 256 long).1 in
    let here : is_longer 255 text ≡ true = grind (arith, nat_tests) in
    here ∙ sym (ap (nat_lt 255) cut_count)

longer : (text : List ℕ) → is_longer 255 text ≡ is_longer 255 (first_chars 256 text)
longer text = longer_by text (le_or_lt (char_count text) 256)

short_is : (text : List ℕ) → is_longer 255 text ≡ false → first_chars 256 text ≡ text
short_is text short = whole 256 text (grind (arith, nat_tests))

abbrev cut_marked : Bool → List ℕ → List (List ℕ) → Marked
cut_marked long text notes = option_map_or (λ t. record { text = t; notes = notes ++ codes "cut" ∷ [] }) (only_if long (cut 255 text)) (record { text = text; notes = notes })

cut-same : (long : Bool) (a b : List ℕ) (notes : List (List ℕ)) → first_chars 256 a ≡ first_chars 256 b → is_longer 255 a ≡ long → is_longer 255 b ≡ long
    → cut_marked long a notes ≡ cut_marked long b notes
cut-same true a b notes same is other =
    ap (λ (t : List ℕ). record { text = t ++ codes "..."; notes = notes ++ codes "cut" ∷ [] }) (fewer_same 252 256 a b (omega arith) same)
cut-same false a b notes same is other = ap (λ (t : List ℕ). record { text = t; notes = notes }) (sym (short_is a is) ∙ same ∙ short_is b other)

cut-shown : (a b : List ℕ) (notes : List (List ℕ)) → first_chars 256 a ≡ first_chars 256 b → cut_marked (is_longer 255 a) a notes ≡ cut_marked (is_longer 255 b) b notes
cut-shown a b notes same =
    let is : is_longer 255 a ≡ is_longer 255 b = longer a ∙ ap (is_longer 255) same ∙ sym (longer b) in
    cut-same (is_longer 255 a) a b notes same refl (sym is) ∙ ap (λ long. cut_marked long b notes) is

spaces-cut : (watched : Bool) (input : SigInput) (a b : Marked) → MarkedShow a b → after_all watched input a (Spaces ∷ Cut ∷ []) ≡ after_all watched input b (Spaces ∷ Cut ∷ [])
unfolding after_all
spaces-cut watched input a b so_far =
    cut-shown (spaced a.text) (spaced b.text) (a.notes ++ []) so_far.0
    ∙ ap (λ (notes : List (List ℕ)). cut_marked (is_longer 255 (spaced b.text)) (spaced b.text) (notes ++ [])) so_far.1

-- the rules make the same of texts of which a signature shows the same
pub rules-same : (watched : Bool) (input : SigInput) (a b : List ℕ) → Shows a b → after_rules watched input a ≡ after_rules watched input b
rules-same watched input a b same =
    fronts-then watched input (OutOfMemory ∷ Abort ∷ Shutdown ∷ ShutdownHang ∷ Ipc ∷ StackOverflow ∷ Hang ∷ BadHardware ∷ []) (Spaces ∷ Cut ∷ []) (spaces-cut watched input)
    (out_of_memory, (abort, (shutdown, (shutdown_hang, (ipc, (stack_overflow, (hang, (bad_hardware, tt))))))))
    (record { text = a; notes = [] }) (record { text = b; notes = [] }) (same, refl)

-- ---- a text that was cut behind its blanks

free-step : (b z : Bool) (n byte : ℕ) (rest : List ℕ) → begins_char byte ≡ b → (n == 0) ≡ z → HasNoGap (byte ∷ rest) → ((k : ℕ) → HasNoGap (first_chars k rest))
    → HasNoGap (first_chars n (byte ∷ rest))
free-step true true n byte rest begins none free more =
    let is : n ≡ 0 = grind (arith, nat_tests) in
    subst HasNoGap (sym (ap (λ k. first_chars k (byte ∷ rest)) is ∙ chars_end byte rest begins)) tt
free-step true false n byte rest begins some free more =
    let positive : 0 < n = grind (arith, nat_tests) in
    subst HasNoGap (sym (chars_yes byte rest n begins positive)) (free.0, more (n - 1))
free-step false z n byte rest inside is free more = subst HasNoGap (sym (chars_no byte rest n inside)) (free.0, more n)

free_front : (text : List ℕ) (n : ℕ) → HasNoGap text → HasNoGap (first_chars n text)
free_front [] n free = tt
free_front (byte ∷ rest) n free = free-step (begins_char byte) (n == 0) n byte rest refl refl free (λ k. free_front rest k free.1)

spaced_word : (word : List ℕ) → IsWord word → spaced word ≡ word
spaced_word word is = ap (joined (codes " ")) (one_word word is) ∙ append-nil word

front_word : (word : List ℕ) (n : ℕ) → IsWord word → IsWord (first_chars (n + 1) word)
front_word word n is =
    let test : (length (first_chars (n + 1) word) == 0) ≡ false =
    ap (λ (xs : List ℕ). length (first_chars (n + 1) xs) == 0) (sym (append-nil word)) ∙ some_chars (n + 1) word [] (omega arith) is in
    (grind (arith, nat_tests), free_front word (n + 1) is.1)

-- the front of one word
word-shown : (word : List ℕ) (n : ℕ) → IsWord word → first_chars n (spaced (first_chars (n + 1) word)) ≡ first_chars n word
word-shown word n is = ap (first_chars n) (spaced_word (first_chars (n + 1) word) (front_word word n is)) ∙ fewer word n (n + 1) (omega arith)

onto-some : (byte : ℕ) (parts : List (List ℕ)) → 0 < length (filter (λ w. nat_lt 0 (length w)) (onto_first byte parts))
onto-some byte [] = omega arith
onto-some byte (part ∷ parts) =
    let test : nat_lt 0 (length (byte ∷ part)) ≡ true = grind (arith, nat_tests) in
    let kept = filter (λ w. nat_lt 0 (length w)) parts in
    subst (λ t. 0 < length (cond t ((byte ∷ part) ∷ kept) kept)) (sym test) (omega arith)

words-some : (byte : ℕ) (rest : List ℕ) → is_gap byte ≡ false → 0 < length (words (byte ∷ rest))
words-some byte rest none =
    subst (λ (parts : List (List ℕ)). 0 < length (filter (λ w. nat_lt 0 (length w)) parts)) (sym (slice_split-cons_no is_gap byte rest none)) (onto-some byte (slice_split is_gap rest))

some_words-step : (b : Bool) (n byte : ℕ) (rest : List ℕ) → begins_char byte ≡ b → is_gap byte ≡ false → 0 < n → 0 < length (words (first_chars n (byte ∷ rest)))
some_words-step true n byte rest begins none some =
    subst (λ (text : List ℕ). 0 < length (words text)) (sym (chars_yes byte rest n begins some)) (words-some byte (first_chars (n - 1) rest) none)
some_words-step false n byte rest inside none some =
    subst (λ (text : List ℕ). 0 < length (words text)) (sym (chars_no byte rest n inside)) (words-some byte (first_chars n rest) none)

some_words : (word rest : List ℕ) (n : ℕ) → IsWord word → 0 < n → 0 < length (words (first_chars n (word ++ rest)))
some_words [] rest n is some = absurd (omega (arith, is.0))
some_words (byte ∷ word) rest n is some = some_words-step (begins_char byte) n byte (word ++ rest) refl is.1.0 some

behind-none : (list : List (List ℕ)) → first_chars 0 (behind list) ≡ []
behind-none [] = refl
behind-none (word ∷ list) = refl

behind-some : (list : List (List ℕ)) (n : ℕ) → 0 < length list → first_chars (n + 1) (behind list) ≡ 32 ∷ first_chars n (joined (codes " ") list)
behind-some [] n some = absurd (omega arith)
behind-some (word ∷ list) n some =
    let left : (n + 1) - 1 ≡ n = omega arith in
    chars_yes 32 (joined (codes " ") (word ∷ list)) (n + 1) refl (omega arith) ∙ ap (λ k. 32 ∷ first_chars k (joined (codes " ") (word ∷ list))) left

abbrev CutShown : List (List ℕ) → Type 0
CutShown list = (n : ℕ) → first_chars n (spaced (first_chars (n + 1) (joined (codes " ") list))) ≡ first_chars n (joined (codes " ") list)

-- what stands behind the first word
rest-shown : (next : List ℕ) (list : List (List ℕ)) (r : ℕ) → IsWord next → CutShown (next ∷ list)
    → first_chars r (behind (words (first_chars r (joined (codes " ") (next ∷ list))))) ≡ first_chars r (32 ∷ joined (codes " ") (next ∷ list))
rest-shown next list zero is more = behind-none (words (first_chars 0 (joined (codes " ") (next ∷ list))))
rest-shown next list (suc r) is more =
    let text = joined (codes " ") (next ∷ list) in
    let one : r + 1 ≡ suc r = omega arith in
    let left : suc r - 1 ≡ r = omega arith in
    sym (ap (λ k. first_chars k (behind (words (first_chars k text)))) one)
    ∙ behind-some (words (first_chars (r + 1) text)) r (some_words next _ (r + 1) is (omega arith))
    ∙ ap (λ (xs : List ℕ). 32 ∷ xs) (more r)
    ∙ sym (chars_yes 32 text (suc r) refl (omega arith) ∙ ap (λ k. 32 ∷ first_chars k text) left)

-- the words of a text that was cut behind its first word
cut-words : (word rest : List ℕ) → IsWord word → spaced (word ++ 32 ∷ rest) ≡ word ++ behind (words rest)
cut-words word rest is =
    ap (joined (codes " ")) (words-append word 32 rest refl ∙ ap (λ (list : List (List ℕ)). list ++ words rest) (one_word word is))

words-shown : (word next : List ℕ) (list : List (List ℕ)) (n r : ℕ) → IsWord word → IsWord next → CutShown (next ∷ list) → (n + 1) - char_count word ≡ r → char_count word ≤ n + 1
    → first_chars n (spaced (first_chars (n + 1) (word ++ 32 ∷ joined (codes " ") (next ∷ list)))) ≡ first_chars n (word ++ 32 ∷ joined (codes " ") (next ∷ list))
words-shown word next list n zero is is_next more left fits =
    let rest = 32 ∷ joined (codes " ") (next ∷ list) in
    ap (λ (t : List ℕ). first_chars n (spaced t)) (first_chars-append (n + 1) word rest fits ∙ ap (λ k. word ++ first_chars k rest) left ∙ append-nil word)
    ∙ ap (first_chars n) (spaced_word word is)
    ∙ sym (first_chars-full n word rest (omega arith))
words-shown word next list n (suc r) is is_next more left fits =
    let text = joined (codes " ") (next ∷ list) in
    let one : suc r - 1 ≡ r = omega arith in
    let below : char_count word ≤ n = omega arith in
    let room : n - char_count word ≡ r = omega arith in
    let front : first_chars (n + 1) (word ++ 32 ∷ text) ≡ word ++ 32 ∷ first_chars r text =
    first_chars-append (n + 1) word (32 ∷ text) fits ∙ ap (λ k. word ++ first_chars k (32 ∷ text)) left
    ∙ ap (λ (xs : List ℕ). word ++ xs) (chars_yes 32 text (suc r) refl (omega arith) ∙ ap (λ k. 32 ∷ first_chars k text) one) in
    ap (λ (t : List ℕ). first_chars n (spaced t)) front
    ∙ ap (first_chars n) (cut-words word (first_chars r text) is)
    ∙ first_chars-append n word (behind (words (first_chars r text))) below
    ∙ ap (λ k. word ++ first_chars k (behind (words (first_chars r text)))) room
    ∙ ap (λ (xs : List ℕ). word ++ xs) (rest-shown next list r is_next more)
    ∙ ap (λ k. word ++ first_chars k (32 ∷ text)) (sym room)
    ∙ sym (first_chars-append n word (32 ∷ text) below)

long-shown : (word rest : List ℕ) (n : ℕ) → IsWord word → n + 1 < char_count word
    → first_chars n (spaced (first_chars (n + 1) (word ++ rest))) ≡ first_chars n (word ++ rest)
long-shown word rest n is long =
    ap (λ (t : List ℕ). first_chars n (spaced t)) (first_chars-full (n + 1) word rest long)
    ∙ word-shown word n is
    ∙ sym (first_chars-full n word rest (omega arith))

cut-shown_by : (word next : List ℕ) (list : List (List ℕ)) (n : ℕ) → IsWord word → IsWord next → CutShown (next ∷ list) → (char_count word ≤ n + 1) ⊎ (n + 1 < char_count word)
    → first_chars n (spaced (first_chars (n + 1) (joined (codes " ") (word ∷ next ∷ list)))) ≡ first_chars n (joined (codes " ") (word ∷ next ∷ list))
cut-shown_by word next list n is is_next more (inl fits) = words-shown word next list n ((n + 1) - char_count word) is is_next more refl fits
cut-shown_by word next list n is is_next more (inr long) = long-shown word (32 ∷ joined (codes " ") (next ∷ list)) n is long

-- one character more than is shown may be a space at the end, which goes away
cut_shown : (list : List (List ℕ)) → AllWords list → CutShown list
cut_shown [] all n = refl
cut_shown (word ∷ []) all n =
    ap (λ (t : List ℕ). first_chars n (spaced (first_chars (n + 1) t))) (append-nil word)
    ∙ word-shown word n all.0
    ∙ ap (first_chars n) (sym (append-nil word))
cut_shown (word ∷ next ∷ list) all n = cut-shown_by word next list n all.0 all.1.0 (cut_shown (next ∷ list) all.1) (le_or_lt (char_count word) (n + 1))

-- ---- what is held of the texts makes the same signature as the texts

pub front-same : (watched : Bool) (input : SigInput) (thread_found : Bool) (lists : ListTexts) (texts : List (List ℕ))
    → after_rules watched input (front_text thread_found (stack_state lists texts)) ≡ after_rules watched input (text_of thread_found texts)
front-same watched input thread_found lists [] = refl
front-same watched input thread_found lists (first ∷ texts) =
    let text = joined separator (first ∷ texts) in
    let later : (length (first ∷ texts) == 0) ≡ false = grind (arith, nat_tests) in
    let front = first_chars 257 (spaced text) in
    ap (λ b. after_rules watched input (cond b front (front_text thread_found (stack_state lists [])))) (some_last first texts)
    ∙ rules-same watched input front text (cut_shown (words text) (all_words text) 256)
    ∙ ap (λ b. after_rules watched input (cond b (front_text thread_found (stack_state lists [])) text)) (sym later)
