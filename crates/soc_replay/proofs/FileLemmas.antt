-- What files say, once they are read and looked at.
use Rattle.std.proofs.Common.{◌≡◌, ℕ, List, [], ◌∷◌, Option, None, Some, Result, Ok, Err, refl, sym, ap, subst, ◌∙◌}
use Rattle.std.specs.Prelude.{IfErr, IfSome, codes, is_ok, option_map}
use Rattle.std.specs.Option.{option_or}
use Rattle.std.specs.Result.{IsErrAnd, IsErrOf}
use Rattle.soc_siglists.specs.declared.error.ListName.{ListName}
use Rattle.soc_siglists.specs.Reading.{first_bad}
use Rattle.soc_report.specs.declared.error.KitError.{KitError}
use Rattle.soc_report.specs.declared.error.KitError.TheVariants as kit
use Rattle.soc_report.specs.Kits.{IsKit, bad_pattern, bad_symbols, first_bad_symbols, refusal_of}
use Rattle.soc_report.specs.Texts.{Files, KitTexts, SymbolText, name_of, texts_in, text_at}
use Rattle.soc_replay.specs.declared.refusal.FilesFault.{FilesFault}
use Rattle.soc_replay.specs.declared.refusal.FilesFault.TheVariants.{Maker, Tree}
use Rattle.soc_replay.specs.Refusals.{of_kit}
use Rattle.soc_replay.specs.declared.setup.Setup.{Setup}
use Rattle.soc_replay.specs.declared.texts.Texts.{Texts}
use Rattle.soc_replay.specs.Files.{files_say, kit_says, missing_says, setup_in, setup_says, shown_at}
use Rattle.soc_replay.specs.Setup.{setup_of}
use Rattle.soc_replay.specs.inner.Replay.{IsFilesFault}
use Rattle.soc_replay.specs.inner.Texts.{AreTexts}

-- ---- a text is never refused for a fault of the tree

no_tree_of : (symbol : SymbolText) (line : Option ℕ) → option_map (λ n. kit.BadLine (name_of symbol.path) n) line ≡ Some kit.TreeFault → ⊥
no_tree_of symbol None is = cc
no_tree_of symbol (Some line) is = cc

or_else : {A : Type 0} (first second : Option A) (a : A) → option_or first second ≡ Some a → (first ≡ Some a → ⊥) → (second ≡ Some a → ⊥) → ⊥
or_else None second a is none other = other is
or_else (Some b) second a is none other = none is

no_tree_in : (symbols : List SymbolText) → first_bad_symbols symbols ≡ Some kit.TreeFault → ⊥
no_tree_in [] is = cc
no_tree_in (symbol ∷ more) is = or_else (bad_symbols symbol) (first_bad_symbols more) kit.TreeFault is (no_tree_of symbol _) (no_tree_in more)

no_tree_by : (bad : Option (ListName × ℕ)) → option_map bad_pattern bad ≡ Some kit.TreeFault → ⊥
no_tree_by None is = cc
no_tree_by (Some bad) is = cc

pub no_tree_fault : (texts : KitTexts) → refusal_of texts ≡ Some kit.TreeFault → ⊥
no_tree_fault texts is =
    or_else (option_map bad_pattern (first_bad texts.irrelevant texts.prefix texts.sentinel)) (first_bad_symbols texts.symbols) kit.TreeFault is
    (no_tree_by (first_bad texts.irrelevant texts.prefix texts.sentinel)) (no_tree_in texts.symbols)

pub kit_not_tree : {A : Type 0} (result : Result A FilesFault) (texts : KitTexts) (error : KitError)
    → IsErrAnd result (λ fault. fault ≡ of_kit error) → IsKit (Err error) texts → IsErrOf result Tree → ⊥
kit_not_tree (Ok _) texts error never reads is = never
kit_not_tree (Err fault) texts kit.TreeFault gives reads is = no_tree_fault texts reads
kit_not_tree (Err fault) texts kit.MakerFault gives reads is = cc
kit_not_tree (Err fault) texts kit.NoMemory gives reads is = cc
kit_not_tree (Err fault) texts (kit.Missing name) gives reads is = cc
kit_not_tree (Err fault) texts (kit.BadLine name line) gives reads is = cc
kit_not_tree (Err fault) texts (kit.BadPattern list line) gives reads is = cc

-- ---- what is said

setup_said : (files : Files) (texts : Texts) (setup : Setup) → AreTexts files texts → setup_of texts.settings texts.tokens texts.page texts.version ≡ Ok setup
    → setup_in files ≡ Ok setup
setup_said files texts setup are says =
    sym (ap (λ (s : List ℕ). setup_of s (text_at files (codes "tokens.toml")) (shown_at files (codes "ui.html")) (shown_at files (codes "version.json"))) are.settings)
    ∙ (sym (ap (λ (t : List ℕ). setup_of texts.settings t (shown_at files (codes "ui.html")) (shown_at files (codes "version.json"))) are.tokens)
    ∙ (sym (ap (λ (p : Option (List ℕ)). setup_of texts.settings texts.tokens p (shown_at files (codes "version.json"))) are.page)
    ∙ (sym (ap (λ (v : Option (List ℕ)). setup_of texts.settings texts.tokens texts.page v) are.version) ∙ says)))

-- what lists and symbol files make of settings and tokens that are good
says_kit : (files : Files) (texts : Texts) (setup : Setup) → AreTexts files texts → setup_of texts.settings texts.tokens texts.page texts.version ≡ Ok setup
    → files_say files ≡ kit_says setup texts.kit (refusal_of texts.kit)
says_kit files texts setup are says =
    ap (λ m. missing_says files m) are.none_missing
    ∙ (ap (λ (s : Result Setup FilesFault). setup_says (texts_in files) s) (setup_said files texts setup are says)
    ∙ sym (ap (λ (k : KitTexts). kit_says setup k (refusal_of k)) are.kit))

pub says_said : (told : Option Files) (texts : Texts) (setup : Setup) → IfSome told (λ files. AreTexts files texts) → setup_of texts.settings texts.tokens texts.page texts.version ≡ Ok setup → refusal_of texts.kit ≡ None
    → IfSome told (λ files. files_say files ≡ Ok (record { setup = setup; texts = texts.kit }))
says_said None texts setup are says none = tt
says_said (Some files) texts setup are says none = says_kit files texts setup are says ∙ ap (λ r. kit_says setup texts.kit r) none

-- ---- lists and symbol files that are refused

kit_refused : (files : Files) (texts : Texts) (setup : Setup) (error : KitError) → AreTexts files texts → setup_of texts.settings texts.tokens texts.page texts.version ≡ Ok setup
    → IsKit (Err error) texts.kit → IsFilesFault files (of_kit error)
kit_refused files texts setup kit.TreeFault are says reads = tt
kit_refused files texts setup kit.MakerFault are says reads = (are.none_missing, ap is_ok (setup_said files texts setup are says))
kit_refused files texts setup kit.NoMemory are says reads = tt
kit_refused files texts setup (kit.Missing name) are says reads = says_kit files texts setup are says ∙ ap (λ r. kit_says setup texts.kit r) reads
kit_refused files texts setup (kit.BadLine name line) are says reads = says_kit files texts setup are says ∙ ap (λ r. kit_says setup texts.kit r) reads
kit_refused files texts setup (kit.BadPattern list line) are says reads = says_kit files texts setup are says ∙ ap (λ r. kit_says setup texts.kit r) reads

pub kit_fault : {A : Type 0} (told : Option Files) (texts : Texts) (setup : Setup) (error : KitError) (result : Result A FilesFault)
    → IfSome told (λ files. AreTexts files texts) → setup_of texts.settings texts.tokens texts.page texts.version ≡ Ok setup → IsKit (Err error) texts.kit
    → IsErrAnd result (λ fault. fault ≡ of_kit error) → IfErr result (λ fault. IfSome told (λ files. IsFilesFault files fault))
kit_fault told texts setup error (Ok _) are says reads never = tt
kit_fault None texts setup error (Err fault) are says reads gives = tt
kit_fault (Some files) texts setup error (Err fault) are says reads gives =
    subst (λ (f : FilesFault). IsFilesFault files f) (sym gives) (kit_refused files texts setup error are says reads)

pub kit_maker : {A : Type 0} (result : Result A FilesFault) (error : KitError) → IsErrAnd result (λ fault. fault ≡ of_kit error) → IsErrOf result Maker → error ≡ kit.MakerFault
kit_maker (Ok _) error never is = absurd never
kit_maker (Err fault) kit.MakerFault gives is = refl
kit_maker (Err fault) kit.TreeFault gives is = absurd (let never : ⊥ = cc in never)
kit_maker (Err fault) kit.NoMemory gives is = absurd (let never : ⊥ = cc in never)
kit_maker (Err fault) (kit.Missing name) gives is = absurd (let never : ⊥ = cc in never)
kit_maker (Err fault) (kit.BadLine name line) gives is = absurd (let never : ⊥ = cc in never)
kit_maker (Err fault) (kit.BadPattern list line) gives is = absurd (let never : ⊥ = cc in never)
