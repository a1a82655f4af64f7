use Rattle.std.proofs.Common.{◌<◌, ◌≤◌, length, map, subst}
use Rattle.std.proofs.lemmas.List.{drop_all}
use Rattle.mw_json.specs.View.{view, member_view}
use Rattle.mw_json.specs.Building.{FieldsAreWritable}
use Rattle.mw_json.proofs.Built.{Left, all_left, none_left, one_left, from_here, one_member_more}
use Rattle.mw_json.proofs.build.members.Goals as goal

pub loop-name-init : goal.loop-name-init
loop-name-init c = record {
  value = λ ms h. rw c.in_ok-members.ensures (all_left _ ms h);
  writable = λ can. (rw c.in_ok-members.ensures tt, can);
}

pub loop-name-preserved : goal.loop-name-preserved
loop-name-preserved c =
    let within : c.loop-name.name-index < length c.loop-name.fields = rw c.loop-name.auto.fields c.loop-name-test.true in
    let front = from_here c.loop-name.fields c.loop-name.name-index c.fields-item.result _ within in
    record {
      value = λ ms h.
          one_left _ _ _ (view c.in_ok-value.value) (map member_view c.loop-name.members) _ ms
          c.in_ok-value.ensures.value c.in_ok-put.ensures.ok
          (subst (λ fs. Left (map (λ f. (f.0.now, f.1)) fs) (map member_view c.loop-name.members) ms) front (c.loop-name.invariant.value ms h));
      writable = λ can.
          let so_far = c.loop-name.invariant.writable can in
          let rest = subst (λ fs. FieldsAreWritable (map (λ f. f.1) fs)) front so_far.1 in
          (rw c.in_ok-put.ensures.ok (one_member_more _ _ so_far.0 (c.in_ok-value.ensures.writable rest.0)), rest.1);
    }

pub returns-clause-value : goal.returns-clause-value
returns-clause-value c ms h =
    let past : length c.loop-name.fields ≤ c.loop-name.name-index = rw c.loop-name.auto.fields c.loop-name-test.false in
    none_left _ ms
    (subst (λ fs. Left (map (λ f. (f.0.now, f.1)) fs) (map member_view c.loop-name.members) ms) (drop_all _ _ past) (c.loop-name.invariant.value ms h))
