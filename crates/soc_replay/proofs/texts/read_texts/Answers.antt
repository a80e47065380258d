use Rattle.soc_replay.proofs.TextLemmas.{texts_are}
use Rattle.soc_replay.proofs.texts.read_texts.Goals as goal

pub returns-clause-told : goal.returns-clause-told
returns-clause-told g c = texts_are _ _ _ _ _ _ c.in_ok-settings.ensures.told c.read_text.ensures.looks.files_stay c.in_ok-tokens.ensures.told c.read_text-2.ensures.looks.files_stay c.in_ok-kit.ensures.gives c.read.ensures.looks.files_stay c.in_ok-page.ensures.told c.read_shown.ensures.looks.files_stay c.in_ok-version.ensures.told
