use Rattle.std.proofs.Common.{◌≡◌, ℕ, List, Option, Some, None, true, is_some, option_map, refl, sym, ap, ap₂, ◌∙◌, subst}
use Rattle.mw_model.specs.Json.{Json, find_member}
use Rattle.mw_protocol.specs.Operations.{set_member}
use Rattle.mw_protocol.specs.Reading.{read_value}
use Rattle.mw_json.specs.View.{view, members_view}
use Rattle.mw_json.specs.declared.tree.Member.{Member}
use Rattle.mw_effects.specs.Parts.{standing_of}
use Rattle.mw_effects.specs.Reading.{AreRead}
use Rattle.mw_effects.proofs.ReadOnce.{set_again, set_read}
use Rattle.mw_effects.proofs.gets.with_value.Goals as goal

still_some : {X Y : Type 0} (f : X → Y) (o : Option X) → is_some (option_map f o) ≡ is_some o
still_some f None = refl
still_some f (Some x) = refl

pub returns-then-is_some-clause-value : goal.returns-then-is_some-clause-value
returns-then-is_some-clause-value c =
    let s = c.args.standing.now in
    let key : List ℕ = c.args.key.now in
    let found : is_some (find_member key (members_view c.args.values)) ≡ true =
    ap₂ (λ (k : List ℕ) (ms : List Member). is_some (find_member k (members_view ms))) (sym c.as_str.ensures) (sym c.as_slice.ensures)
    ∙ ap is_some (sym c.find.ensures)
    ∙ still_some (λ t. view t.now) c.find.result
    ∙ sym c.is_some.ensures
    ∙ c.if-is_some.true in
    sym (set_again (read_value s.log.seed (standing_of s)) key (members_view c.args.values) c.requires.sound.ordered c.requires.read found)

pub returns-clause-read : goal.returns-clause-read
returns-clause-read c =
    let s = c.args.standing.now in
    let key : List ℕ = c.args.key.now in
    let read : List ℕ → Json = read_value s.log.seed (standing_of s) in
    let is : members_view c.in_ok-values.values ≡ set_member key (read key) (members_view c.args.values) =
    c.in_ok-values.ensures.value
    ∙ ap₂ (λ (k : List ℕ) (j : Json). set_member k j (members_view c.args.values)) (c.in_ok-name.ensures ∙ c.as_str-2.ensures) c.in_ok-value.ensures.value in
    subst (AreRead read) (sym is) (set_read read key (members_view c.args.values) c.requires.read)
