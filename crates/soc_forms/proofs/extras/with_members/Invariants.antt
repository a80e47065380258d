use Rattle.std.proofs.Common.{◌≡◌, false}
use Rattle.serde_json.specs.View.{members_view}
use Rattle.serde_json.specs.Written.{members_have_float}
use Rattle.soc_forms.specs.Extras.{with_members}
use Rattle.soc_forms.specs.inner.FieldViews.{fields_text}
use Rattle.soc_forms.proofs.extras.with_members.Given as goal

-- the fields so far with what is left of the members are the fields with all of them
abbrev pub invariant-loop-key : goal.invariant-loop-key
invariant-loop-key l = record {
  exact : members_have_float (members_view l.key-iterator) ≡ false;
  same :
      with_members (fields_text l.new) (members_view l.key-iterator)
      ≡ with_members (fields_text l.initial.new) (members_view l.initial.key-iterator);
}
