use Rattle.std.proofs.Common.{◌≡◌, ◌++◌, ◌∙◌, ℕ, List, [], Result, Ok, Err, length, refl, sym, ap, ap₂, subst}
use Rattle.std.specs.Prelude.{OnOk, codes}
use Rattle.mw_json.specs.Grammar.{Breach, Gives, refused, under}
use Rattle.mw_json.specs.declared.refusal.Kind.TheVariants.{WrongKind}
use Rattle.mw_json.specs.declared.refusal.Refusal.{Refusal}
use Rattle.mw_json.specs.declared.refusal.Refusal.TheVariants.{Memory, Named}
use Rattle.mw_json.specs.declared.refusal.Step.{Step}
use Rattle.mw_json.specs.declared.refusal.Step.TheVariants.{Name}
use Rattle.mw_multi.specs.Players.{Player, Players}
use Rattle.mw_tables.specs.PlayersOf.{players_named, links_named, names_of_players, all_named}
use Rattle.mw_tables.proofs.players_reading.judge_names.Goals as goal

-- what is accepted where it stands is accepted by itself
accepted : (answer : Result (Unit {0}) Refusal) (step : Step) → ((read : Result (Unit {0}) Breach) → Gives answer read → under step read ≡ Ok tt) → answer ≡ Ok tt
accepted (Ok x) step h = refl
accepted (Err Memory) step h = let e = h (refused WrongKind) tt in cc
accepted (Err (Named kind path)) step h = let e = h (Err record { kind = kind; path = path }) refl in cc

pub returns : goal.returns
unfolding all_named
returns c =
    let raw = c.args.raw.now in
    let slice = c.as_slice-players.result.now in
    let met = c.new-seen.result in
    let here = Name (codes "players") in
    let ok : c.judge_players.result ≡ Ok tt =
    accepted c.judge_players.result here (λ read g. subst (λ (r : Result (Unit {0}) Refusal). Gives r (under here read)) c.in_ok-at_name.was (c.at_name.ensures read g)) in
    let players : slice ≡ raw.players = c.as_slice-players.ensures ∙ ap (λ (p : Players). p.players) c.raw.view_is in
    let links : c.as_slice-links.result.now ≡ raw.links = c.as_slice-links.ensures ∙ ap (λ (p : Players). p.links) c.raw.view_is in
    let answer : players_named met 0 slice ≡ Ok tt = subst (λ (r : Result (Unit {0}) Refusal). Gives r (players_named met 0 slice)) ok c.judge_players.ensures.answer in
    let judged : players_named [] 0 raw.players ≡ Ok tt = ap₂ (λ (s : List (List ℕ)) (ps : List Player). players_named s 0 ps) (sym c.new-seen.ensures) (sym players) ∙ answer in
    let grown : c.judge_players.new.seen ≡ met ++ names_of_players slice = subst (λ (r : Result (Unit {0}) Refusal). OnOk r (c.judge_players.new.seen ≡ met ++ names_of_players slice)) ok c.judge_players.ensures.grown in
    let seen : c.judge_players.new.seen ≡ names_of_players raw.players = grown ∙ ap₂ (λ (s : List (List ℕ)) (ps : List Player). s ++ names_of_players ps) c.new-seen.ensures players in
    let last : Gives c.at_name-2.result (under (Name (codes "links")) (links_named (length slice) c.judge_players.new.seen 0 c.as_slice-links.result.now)) =
    c.at_name-2.ensures (links_named (length slice) c.judge_players.new.seen 0 c.as_slice-links.result.now) c.judge_links.ensures in
    rw judged (rw (← seen, ← players, ← links) last)
