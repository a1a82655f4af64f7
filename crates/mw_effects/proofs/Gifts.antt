-- Releases and collects: what their records come to.
use Rattle.std.proofs.Common.{◌≡◌, ℕ, ℤ, true, cond, List, [], ◌∷◌, ◌++◌, Bool, Option, None, map, refl, sym, ap, ap₂, ◌∙◌, subst, append-nil, append_assoc, length, ◌<◌, codes, arith}
use Rattle.std.proofs.lemmas.List.{length-map, map-append}
use Rattle.mw_protocol.specs.Asked.{asked_by}
use Rattle.mw_protocol.specs.Checks.{Check, unseen}
use Rattle.mw_protocol.specs.Commands.{if_some, is_allowed, where_new}
use Rattle.mw_protocol.specs.Connecting.{Member}
use Rattle.mw_protocol.specs.Effect.{telling}
use Rattle.mw_protocol.specs.Speaking.{announcing, giving, where_allowed}
use Rattle.mw_protocol.specs.Records as recorded
use Rattle.mw_protocol.specs.Records.{Hint}
use Rattle.mw_protocol.specs.Standing as plain
use Rattle.mw_protocol.specs.Standing.{step, steps}
use Rattle.mw_protocol.specs.Statuses.{SlotStatus, set_status}
use Rattle.mw_protocol.specs.Storage.{Kept}
use Rattle.mw_checks.proofs.Releasing.{fresh_joined}
use Rattle.mw_checks.specs.Log.{AreFresh, check_of, checks_of}
use Rattle.mw_laws.proofs.Journal.{steps-append}
use Rattle.mw_records.specs.Records.{record_view}
use Rattle.mw_effects.specs.Given.{IsGiven, asking}
use Rattle.mw_records.specs.declared.record.Record.{Record}
use Rattle.mw_effects.specs.Parts.{standing_of, stated_by}
use Rattle.mw_effects.specs.Views.{effect_view, IsEffect}
use Rattle.mw_effects.specs.declared.effect.Effect.{Effect}
use Rattle.mw_effects.proofs.Effects.{logged_by}
use Rattle.mw_effects.specs.declared.giving.Given.{Given}
use Rattle.mw_effects.specs.declared.giving.Giving.{Giving}
use Rattle.mw_effects.specs.declared.giving.Giving.TheVariants.{Release, Collect}
use Rattle.mw_effects.specs.declared.standing.Standing.{Standing}

-- what stands once records of gifts are done
asked_after : (s : Standing) (team : ℕ) (g : Given) (r : recorded.Record) → IsGiven s team g
    → where_new s.log.seed (steps s.log.seed (standing_of s) (map record_view g.records)) r ≡ if_some (unseen (s.log.checked ++ checks_of team g.new) (asked_by s.log.seed r)) r
asked_after s team g r given = ap (λ (now : plain.Standing). where_new s.log.seed now r) (given.comes_to s.statuses.items s.hints.hints s.store.kept)

-- nothing is new
pub none_more : (s : Standing) (team : ℕ) (g : Given) (r : recorded.Record) (more : List (ℕ × ℤ)) → IsGiven s team g
    → checks_of team more ≡ unseen (s.log.checked ++ checks_of team g.new) (asked_by s.log.seed r) → more ≡ []
    → where_new s.log.seed (steps s.log.seed (standing_of s) (map record_view g.records)) r ≡ []
none_more s team g r more given is none = asked_after s team g r given ∙ ap (λ (cs : List Check). if_some cs r) (sym is ∙ ap (checks_of team) none)

-- something is new
pub one_more : (s : Standing) (team : ℕ) (g : Given) (r : recorded.Record) (p : ℕ × ℤ) (more : List (ℕ × ℤ)) → IsGiven s team g
    → checks_of team (p ∷ more) ≡ unseen (s.log.checked ++ checks_of team g.new) (asked_by s.log.seed r)
    → where_new s.log.seed (steps s.log.seed (standing_of s) (map record_view g.records)) r ≡ r ∷ []
one_more s team g r p more given is = asked_after s team g r given ∙ ap (λ (cs : List Check). if_some cs r) (sym is)

-- a gift's record changes checks alone
gift_step : (seed : _) (giving : Giving) (team slot : ℕ) (cs : List Check) (ss : List SlotStatus) (hs : List Hint) (ks : List Kept)
    → step seed (record { checked = cs; statuses = ss; hints = hs; storage = ks }) (asking giving team slot)
    ≡ record { checked = cs ++ unseen cs (asked_by seed (asking giving team slot)); statuses = ss; hints = hs; storage = ks }
gift_step seed Release team slot cs ss hs ks = refl
gift_step seed Collect team slot cs ss hs ks = refl

-- a gift more is given
pub gift_more : (s : Standing) (team slot : ℕ) (giving : Giving) (g h : Given) (more : List (ℕ × ℤ)) → IsGiven s team g
    → checks_of team more ≡ unseen (s.log.checked ++ checks_of team g.new) (asked_by s.log.seed (asking giving team slot))
    → AreFresh s.log.seed (s.log.checked ++ checks_of team g.new) team more
    → map record_view h.records ≡ map record_view g.records ++ asking giving team slot ∷ [] → h.new ≡ g.new ++ more
    → IsGiven s team h
gift_more s team slot giving g h more given is fresh records new =
    let seed = s.log.seed in
    let before = s.log.checked ++ checks_of team g.new in
    let all : before ++ unseen before (asked_by seed (asking giving team slot)) ≡ s.log.checked ++ checks_of team h.new =
    ap (λ (cs : List Check). before ++ cs) (sym is)
    ∙ append_assoc s.log.checked (checks_of team g.new) (checks_of team more)
    ∙ ap (λ (cs : List Check). s.log.checked ++ cs) (sym (map-append (check_of team) g.new more) ∙ ap (checks_of team) (sym new)) in
    record {
      fresh = subst (AreFresh seed s.log.checked team) (sym new) (fresh_joined seed s.log.checked team g.new more given.fresh fresh);
      comes_to = λ ss hs ks.
          let start : plain.Standing = record { checked = s.log.checked; statuses = ss; hints = hs; storage = ks } in
          ap (steps seed start) records
          ∙ steps-append seed start (map record_view g.records) (asking giving team slot ∷ [])
          ∙ ap (λ (now : plain.Standing). step seed now (asking giving team slot)) (given.comes_to ss hs ks)
          ∙ gift_step seed giving team slot before ss hs ks
          ∙ ap (λ (cs : List Check). record { checked = cs; statuses = ss; hints = hs; storage = ks }) all;
    }

-- nothing is given
pub gifts_none : (s : Standing) (team : ℕ) (g : Given) → map record_view g.records ≡ [] → g.new ≡ [] → IsGiven s team g
gifts_none s team g records new = record {
  fresh = subst (AreFresh s.log.seed s.log.checked team) (sym new) tt;
  comes_to = λ ss hs ks.
      ap (steps s.log.seed (record { checked = s.log.checked; statuses = ss; hints = hs; storage = ks })) records
      ∙ ap (λ (cs : List Check). record { checked = cs; statuses = ss; hints = hs; storage = ks }) (sym (append-nil s.log.checked))
      ∙ ap (λ (ps : List (ℕ × ℤ)). record { checked = s.log.checked ++ checks_of team ps; statuses = ss; hints = hs; storage = ks }) (sym new);
}

-- what a status and then gifts come to
pub stated_comes : (s : Standing) (team slot status : ℕ) (g : Given) → IsGiven s team g
    → record { checked = s.log.checked ++ checks_of team g.new; statuses = set_status team slot status s.statuses.items; hints = s.hints.hints; storage = s.store.kept }
    ≡ steps s.log.seed (standing_of s) (recorded.status team slot status ∷ map record_view g.records)
stated_comes s team slot status g given =
    let ss = set_status team slot status s.statuses.items in
    sym (given.comes_to ss s.hints.hints s.store.kept)
    ∙ ap (λ (cs : List Check). steps s.log.seed (record { checked = cs; statuses = ss; hints = s.hints.hints; storage = s.store.kept }) (map record_view g.records)) (sym (append-nil s.log.checked))

some_given : (seed : _) (rs : List recorded.Record) → 0 < length rs → announcing seed rs ≡ giving seed rs
some_given seed [] h = absurd (omega arith)
some_given seed (r ∷ rs) h = refl

-- of a gift by command
pub gift_effect : (e : Effect) (s : Standing) (m : Member) (permission status : ℕ) (r : recorded.Record) (g : Given) → is_allowed permission status ≡ true → IsGiven s m.team g
    → map record_view g.records ≡ where_new s.log.seed (standing_of s) r → 0 < length g.records
    → e.records ≡ g.records → e.team ≡ m.team → e.new ≡ g.new → e.status ≡ None → e.hints ≡ [] → e.payer ≡ None → e.stored ≡ None
    → effect_view e ≡ announcing s.log.seed (map record_view g.records)
    → IsEffect e s (where_allowed permission status (giving s.log.seed (where_new s.log.seed (standing_of s) r)))
gift_effect e s m permission status r g allowed given records some is of new stated hints payer stored view =
    let seed = s.log.seed in
    record {
      is =
          view ∙ some_given seed (map record_view g.records) (simp length-map (omega (arith, some)))
          ∙ ap (giving seed) records
          ∙ sym (ap (λ (b : Bool). cond b (giving seed (where_new seed (standing_of s) r)) (telling (codes "not allowed"))) allowed);
      logged =
          logged_by e s hints payer stored
          (subst (λ (ps : List (ℕ × ℤ)). AreFresh seed s.log.checked e.team ps) (sym new) (subst (λ (t : ℕ). AreFresh seed s.log.checked t g.new) (sym of) given.fresh))
          (ap₂ (λ (cs : List Check) (o : Option SlotStatus). record { checked = s.log.checked ++ cs; statuses = stated_by o s.statuses.items; hints = s.hints.hints; storage = s.store.kept }) (ap₂ checks_of of new) stated
          ∙ sym (given.comes_to s.statuses.items s.hints.hints s.store.kept)
          ∙ ap (λ (rs : List Record). steps seed (standing_of s) (map record_view rs)) (sym is));
    }
