-- The texts of a run, read one after the other from the same tree.
use Rattle.std.proofs.Common.{◌≡◌, Option, None, Some, Ok, Err, subst, ◌∙◌}
use Rattle.std.specs.Prelude.{IfSome, codes}
use Rattle.soc_report.specs.declared.error.KitError.{KitError}
use Rattle.soc_report.specs.declared.error.KitError.TheVariants as kit
use Rattle.soc_report.specs.Texts.{Files, IsReadFrom, text_at}
use Rattle.soc_replay.specs.Refusals.{of_kit}
use Rattle.soc_replay.specs.declared.texts.Texts.{Texts}
use Rattle.soc_replay.specs.Files.{shown_at}
use Rattle.soc_replay.specs.inner.Texts.{AreTexts, IsReadFault}

-- all were read from the same tree
pub texts_are : (first second third fourth fifth : Option Files) (texts : Texts)
    → IfSome first (λ files. texts.settings ≡ text_at files (codes "settings.toml")) → second ≡ first
    → IfSome second (λ files. texts.tokens ≡ text_at files (codes "tokens.toml")) → third ≡ second
    → IfSome third (IsReadFrom (Ok texts.kit)) → fourth ≡ third → IfSome fourth (λ files. texts.page ≡ shown_at files (codes "ui.html")) → fifth ≡ fourth
    → IfSome fifth (λ files. texts.version ≡ shown_at files (codes "version.json")) → IfSome first (λ files. AreTexts files texts)
texts_are None second third fourth fifth texts settings same tokens as_before read afterwards page last version = tt
texts_are (Some files) second third fourth fifth texts settings same tokens as_before read afterwards page last version =
    let brought = subst (λ (told : Option Files). IfSome told (λ f. texts.tokens ≡ text_at f (codes "tokens.toml"))) same tokens in
    let made = subst (λ (told : Option Files). IfSome told (IsReadFrom (Ok texts.kit))) (as_before ∙ same) read in
    let shown = subst (λ (told : Option Files). IfSome told (λ f. texts.page ≡ shown_at f (codes "ui.html"))) (afterwards ∙ (as_before ∙ same)) page in
    let named = subst (λ (told : Option Files). IfSome told (λ f. texts.version ≡ shown_at f (codes "version.json"))) (last ∙ (afterwards ∙ (as_before ∙ same))) version in
    record { settings = settings; tokens = brought; none_missing = made.0; kit = made.1; page = shown; version = named }

fault : (files : Files) (error : KitError) → IsReadFrom (Err error) files → IsReadFault files (of_kit error)
fault files (kit.Missing name) is = is
fault files kit.TreeFault is = tt
fault files kit.NoMemory is = tt
fault files kit.MakerFault never = never
fault files (kit.BadLine name line) never = never
fault files (kit.BadPattern list line) never = never

-- what the reading of lists and symbols refuses
pub read_fault : (first third : Option Files) (error : KitError) → third ≡ first → IfSome third (IsReadFrom (Err error)) → IfSome first (λ files. IsReadFault files (of_kit error))
read_fault None third error same read = tt
read_fault (Some files) third error same read = fault files error (subst (λ (told : Option Files). IfSome told (IsReadFrom (Err error))) same read)
