use Rattle.std.proofs.Common.{◌≡◌, arith}
use Rattle.soc_multipart.proofs.Basics.{match_some, match_none, from_yes, from_no}
use Rattle.soc_forms.proofs.FormLemmas.{one_type}
use Rattle.soc_forms.proofs.form_lines.boundary_of.Goals as goal

pub returns-then-not-is_form-clause-refused : goal.returns-then-not-is_form-clause-refused
returns-then-not-is_form-clause-refused c =
    let few : c.len.result ≡ 1 = omega (arith, c.if-len-ne1.false) in (
      c.as_bytes-value.result.now,
      one_type _ c.args.kinds.now c.at.result.0.now c.at.result.1.now _ c.len.result (from_yes _ c.is_plain.ensures c.if-not-is_plain.false) c.len.ensures few
          c.at.ensures c.as_bytes-value.ensures.value,
      from_no _ c.is_form.ensures c.if-not-is_form.true,
    )

pub returns-in-Some-clause-found : goal.returns-in-Some-clause-found
returns-in-Some-clause-found c =
    let few : c.len.result ≡ 1 = omega (arith, c.if-len-ne1.false) in
    record {
      value = c.as_bytes-value.result.now;
      lines =
          one_type _ c.args.kinds.now c.at.result.0.now c.at.result.1.now _ c.len.result (from_yes _ c.is_plain.ensures c.if-not-is_plain.false) c.len.ensures few
          c.at.ensures c.as_bytes-value.ensures.value;
      media = from_yes _ c.is_form.ensures c.if-not-is_form.false;
      has = match_some _ _ _ _ c.in_ok-boundary.ensures c.in-Some.is;
    }

pub returns-in-None-clause-refused : goal.returns-in-None-clause-refused
returns-in-None-clause-refused c =
    let few : c.len.result ≡ 1 = omega (arith, c.if-len-ne1.false) in (
      c.as_bytes-value.result.now,
      one_type _ c.args.kinds.now c.at.result.0.now c.at.result.1.now _ c.len.result (from_yes _ c.is_plain.ensures c.if-not-is_plain.false) c.len.ensures few
          c.at.ensures c.as_bytes-value.ensures.value,
      from_yes _ c.is_form.ensures c.if-not-is_form.false,
      match_none _ _ _ c.in_ok-boundary.ensures c.in-None.is,
    )
