use Rattle.std.proofs.Common.{◌≡◌, ◌+◌, ◌++◌, ◌∷◌, [], ℕ, ℤ, List, Bool, drop, sym, ap, ◌∙◌, subst, arith, append_assoc}
use Rattle.mw_protocol.specs.Checks.{Check}
use Rattle.mw_checks.specs.Log.{AreFresh, check_of, checks_of}
use Rattle.mw_model.specs.Seed.{Seed}
use Rattle.mw_checks.specs.Rows.{HavePlaces, Keeps, PutFor, receivers_of}
use Rattle.mw_checks.proofs.Keeping.{here, enters, places_more, keeps_more}
use Rattle.mw_checks.proofs.log.enter_all.Goals as goal

pub enter-requires : goal.enter-requires
enter-requires c =
    let l = c.loop-slot in
    let seed = c.args.places.now in
    let pair = c.loop-slot-item.result in
    let seen = c.args.order.now ++ l.checks.items in
    let rest : drop l.slot-index c.args.fresh.now ≡ pair ∷ drop (l.slot-index + 1) c.args.fresh.now = here c.args.fresh.now l.slot-index pair c.loop-slot-test.true c.loop-slot-item.is in
    let first : AreFresh seed seen c.args.team (pair ∷ drop (l.slot-index + 1) c.args.fresh.now) = subst (λ (ps : List (ℕ × ℤ)). AreFresh seed seen c.args.team ps) rest l.invariant.fresh in
    let places = places_more seed seen _ _ _ (check_of c.args.team pair) c.unwrap-number.result c.at.result.now l.invariant.kept
    (enters seed seen c.args.team pair _ c.unwrap-number.result c.at.result.now c.number_of.result first l.invariant.team c.number_of.ensures.slot c.number_of.ensures.value c.unwrap-number.ensures c.at.ensures.value) in
    let whole : c.multidata-multidata.result.now ≡ seed = c.multidata-multidata.ensures.value ∙ c.tables.ensures in
    record { flag = places.0; received = subst (λ (s : Seed). HavePlaces (receivers_of s c.at.result.now) c.args.team l.rows.received.items) (sym whole) places.1.0; found = places.1.1 }

pub loop-slot-preserved : goal.loop-slot-preserved
loop-slot-preserved c =
    let l = c.loop-slot in
    let seed = c.args.places.now in
    let fresh = c.args.fresh.now in
    let pair = c.loop-slot-item.result in
    let check : Check = check_of c.args.team pair in
    let seen = c.args.order.now ++ l.checks.items in
    let rest : drop l.slot-index fresh ≡ pair ∷ drop (l.slot-index + 1) fresh = here fresh l.slot-index pair c.loop-slot-test.true c.loop-slot-item.is in
    let first : AreFresh seed seen c.args.team (pair ∷ drop (l.slot-index + 1) fresh) = subst (λ (ps : List (ℕ × ℤ)). AreFresh seed seen c.args.team ps) rest l.invariant.fresh in
    let more : c.put.new.row.items ≡ l.checks.items ++ check ∷ [] = c.put.ensures.items in
    let grown : c.args.order.now ++ c.put.new.row.items ≡ seen ++ check ∷ [] = ap (λ (cs : List Check). c.args.order.now ++ cs) more ∙ sym (append_assoc c.args.order.now l.checks.items (check ∷ [])) in
    let kept : Keeps seed (seen ++ check ∷ []) c.enter.new.self.done.items c.enter.new.self.received.items c.enter.new.self.found.items =
    subst (λ (bs : List Bool). Keeps seed (seen ++ check ∷ []) bs c.enter.new.self.received.items c.enter.new.self.found.items) (sym c.enter.ensures.flag)
    (keeps_more seed seen _ _ _ c.enter.new.self.received.items c.enter.new.self.found.items check c.unwrap-number.result c.at.result.now l.invariant.kept
    (enters seed seen c.args.team pair _ c.unwrap-number.result c.at.result.now c.number_of.result first l.invariant.team c.number_of.ensures.slot c.number_of.ensures.value c.unwrap-number.ensures c.at.ensures.value)
    (subst (λ (s : Seed). PutFor (receivers_of s c.at.result.now) c.args.team c.unwrap-number.result l.rows.received.items c.enter.new.self.received.items) (c.multidata-multidata.ensures.value ∙ c.tables.ensures) c.enter.ensures.received) c.enter.ensures.found) in
    record {
      listed = ap (λ (cs : List Check). cs ++ checks_of c.args.team (drop (l.slot-index + 1) fresh)) more ∙ append_assoc l.checks.items (check ∷ []) (checks_of c.args.team (drop (l.slot-index + 1) fresh))
          ∙ ap (λ (ps : List (ℕ × ℤ)). l.checks.items ++ checks_of c.args.team ps) (sym rest) ∙ l.invariant.listed;
      kept = subst (λ (cs : List Check). Keeps seed cs c.enter.new.self.done.items c.enter.new.self.received.items c.enter.new.self.found.items) (sym grown) kept;
      fresh = subst (λ (cs : List Check). AreFresh seed cs c.args.team (drop (l.slot-index + 1) fresh)) (sym grown) first.1.1;
      many = omega (arith, c.put.ensures.len, l.invariant.many);
      room = omega (arith, c.put.ensures.space, l.invariant.room);
      team = l.invariant.team;
    }
