use Rattle.std.proofs.Common.{◌∙◌, ap, map}
use Rattle.std.proofs.lemmas.List.{map-append}
use Rattle.soc_siglists.proofs.FileLemmas.{texts-start, texts-pass, texts-entry}
use Rattle.soc_siglists.proofs.entries.entry_texts.Goals as goal

pub loop-rest-init : goal.loop-rest-init
loop-rest-init c = rw c.new-texts.ensures.items (texts-start c.args.bytes.now)

pub loop-rest-preserved-in_ok-push : goal.loop-rest-preserved-in_ok-push
loop-rest-preserved-in_ok-push c =
    texts-entry c.args.bytes.now c.loop-rest.rest.now _ _ _ _ _ c.loop-rest.invariant c.split_line.ensures.line c.split_line.ensures.others c.text_of-text.ensures c.if-is_entry.ensures
    (ap (map (λ t. t.now)) c.in_ok-push.ensures.items ∙ map-append (λ t. t.now) c.loop-rest.texts.items _)

pub loop-rest-preserved : goal.loop-rest-preserved
loop-rest-preserved c =
    texts-pass c.args.bytes.now c.loop-rest.rest.now _ _ _ _ c.loop-rest.invariant c.split_line.ensures.line c.split_line.ensures.others c.text_of-text.ensures c.if-is_entry.ensures
