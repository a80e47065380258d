-- What some words say.
use Rattle.std.specs.Prelude.{◌≡◌, ℕ, [], ◌∷◌, None, Some, codes, refl}
use Rattle.clap.proofs.OnLiterals.{clap_on_literals}
use Rattle.soc_words.specs.declared.words.Task.{Task}
use Rattle.soc_words.specs.declared.words.Task.TheVariants.{Check, Export, Make, Replay, Storm}
use Rattle.soc_words.specs.declared.words.Words.{Words}
use Rattle.soc_words.specs.Words.{app_for, words_of}

-- with the defaults, and a value for each number
abbrev words : Task → ℕ → ℕ → ℕ → ℕ → Words
words task seed count collectors processors = record {
  command = task;
  journal = codes "journal.soc";
  tree = codes ".";
  listen = codes "127.0.0.1:8000";
  seed = seed;
  count = count;
  collectors = collectors;
  processors = processors;
}

defaults : words_of (codes "check" ∷ []) ≡ Some (words Check 1 1 2 2)
unfolding words_of app_for clap_on_literals
defaults = refl

seed_is_given : words_of (codes "make" ∷ codes "--seed" ∷ codes "007" ∷ []) ≡ Some (words Make 7 1 2 2)
unfolding words_of app_for clap_on_literals
seed_is_given = refl

in_one_word : words_of (codes "storm" ∷ codes "--count=2000" ∷ codes "--processors" ∷ codes "8" ∷ []) ≡ Some (words Storm 1 2000 2 8)
unfolding words_of app_for clap_on_literals
in_one_word = refl

texts_are_given : words_of (codes "replay" ∷ codes "--tree" ∷ codes "files" ∷ codes "--journal" ∷ codes "kept" ∷ []) ≡ Some (record (words Replay 1 1 2 2) { tree = codes "files"; journal = codes "kept" })
unfolding words_of app_for clap_on_literals
texts_are_given = refl

export_takes_texts : words_of (codes "export" ∷ codes "--journal=kept" ∷ []) ≡ Some (record (words Export 1 1 2 2) { journal = codes "kept" })
unfolding words_of app_for clap_on_literals
export_takes_texts = refl

no_command : words_of [] ≡ None
unfolding words_of
no_command = refl

other_command : words_of (codes "fly" ∷ []) ≡ None
unfolding words_of
other_command = refl

other_option : words_of (codes "check" ∷ codes "--tree" ∷ codes "files" ∷ []) ≡ None
unfolding words_of app_for clap_on_literals
other_option = refl

twice : words_of (codes "make" ∷ codes "--seed" ∷ codes "7" ∷ codes "--seed" ∷ codes "7" ∷ []) ≡ None
unfolding words_of app_for clap_on_literals
twice = refl

no_value : words_of (codes "make" ∷ codes "--seed" ∷ []) ≡ None
unfolding words_of app_for clap_on_literals
no_value = refl

out_of_range : words_of (codes "serve" ∷ codes "--collectors" ∷ codes "9" ∷ []) ≡ None
unfolding words_of app_for clap_on_literals
out_of_range = refl

signed : words_of (codes "make" ∷ codes "--seed" ∷ codes "+7" ∷ []) ≡ None
unfolding words_of app_for clap_on_literals
signed = refl

help : words_of (codes "serve" ∷ codes "--help" ∷ []) ≡ None
unfolding words_of app_for clap_on_literals
help = refl
