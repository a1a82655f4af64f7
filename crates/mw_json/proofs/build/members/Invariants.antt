use Rattle.std.proofs.Common.{drop, map}
use Rattle.mw_model.specs.Json.{Members, MembersAreWritable}
use Rattle.mw_json.specs.View.{member_view, members_view}
use Rattle.mw_json.specs.Building.{FieldsHold, FieldsAreWritable}
use Rattle.mw_json.proofs.Built.{Left}
use Rattle.mw_json.proofs.build.members.Given as goal

-- the members so far, and the fields to come
abbrev pub invariant-loop-name : goal.invariant-loop-name
invariant-loop-name l = record {
  value : (ms : Members) → FieldsHold (map (λ f. (f.0.now, f.1)) l.initial.fields) ms → Left (map (λ f. (f.0.now, f.1)) (drop l.name-index l.fields)) (map member_view l.members) ms;
  writable : FieldsAreWritable (map (λ f. f.1) l.initial.fields) → MembersAreWritable (members_view l.members) × FieldsAreWritable (map (λ f. f.1) (drop l.name-index l.fields));
}
