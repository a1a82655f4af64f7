-- Groups whose names have nothing to refuse keep the rules on them.
use Rattle.std.proofs.Common.{◌≡◌, ◌<◌, ◌+◌, ◌++◌, ℕ, suc, List, [], ◌∷◌, true, false, Option, Some, None, nat_cmp, map, is_some, sym, ap, subst, ◌∙◌, arith, append_assoc}
use Rattle.std.specs.Prelude.{All, IfOk, bytes_eq, codes, not}
use Rattle.std.specs.List.{IsDistinct, AllByRecursion}
use Rattle.std.proofs.lemmas.Grind.{common_steps}
use Rattle.std.proofs.lemmas.List.{map-append}
use Rattle.std.proofs.lemmas.List.Elements.{All-nil, All-cons}
use Rattle.std.proofs.lemmas.Result.{IfOk-weaker}
use Rattle.mw_model.specs.Ascending.{Ascend, ComesBefore}
use Rattle.mw_model.specs.Seed.{Seed, Group, Game, slot_of}
use Rattle.mw_json.specs.Grammar.{under}
use Rattle.mw_json.specs.declared.refusal.Kind.TheVariants.{DuplicateName, UnknownName, WrongOrder}
use Rattle.mw_json.specs.declared.refusal.Step.TheVariants.{Name, Index}
use Rattle.mw_json.proofs.Passing.{after, within}
use Rattle.mw_multidata.specs.Names.{demand, known, find_game, has_name, all_names, group_name, plays_game, is_above, member_named, members_named, names_with, group_named, groups_named}
use Rattle.mw_multidata.proofs.Judged.{not_false, demanded, known_kept, NewNames, Differ, split_names, apart_from}
use Rattle.mw_multidata.proofs.Plays.{GroupsPlay}

-- ---- members

abbrev pub IsPlayer : Seed → List ℕ → ℕ → Type 0
IsPlayer seed game n = plays_game (slot_of seed n) game ≡ true

abbrev Above : Option ℕ → ℕ → Type 0
Above None n = Unit {0}
Above (Some before) n = before < n

above : (before : Option ℕ) (n : ℕ) → is_above before n ≡ true → Above before n
above None n e = tt
above (Some before) n e = grind (arith, common_steps, e)

member_kept : (seed : Seed) (game : List ℕ) (before : Option ℕ) (n : ℕ) → IfOk (member_named seed game before n) (λ _. IsPlayer seed game n × Above before n)
unfolding member_named
member_kept seed game before n =
    let P : Unit {0} → Type 0 = λ _. IsPlayer seed game n in
    let Q : Unit {0} → Type 0 = λ _. IsPlayer seed game n × Above before n in
    let plays = plays_game (slot_of seed n) game in
    after P Q (demand UnknownName plays) _ (demanded UnknownName plays) (λ _ a.
    IfOk-weaker (demand WrongOrder (is_above before n)) (λ _. is_above before n ≡ true) Q (λ _ e. (a, above before n e)) (demanded WrongOrder (is_above before n)))

-- they ascend, the first above this number
record AreMembers (seed : Seed) (game : List ℕ) (before : Option ℕ) (ns : List ℕ) : Type 0 where
  each : All (IsPlayer seed game) ns
  first : All (Above before) ns
  rest : Ascend nat_cmp ns

come_before : (n : ℕ) (ns : List ℕ) → All (Above (Some n)) ns → ComesBefore nat_cmp n ns
come_before n [] a = tt
come_before n (m ∷ ns) a =
    let first : n < m = a 0 m (omega arith) in
    (grind (arith, common_steps, first), come_before n ns (λ k d l. a (suc k) d (omega (arith, l))))

through : (before : Option ℕ) (n : ℕ) (ns : List ℕ) → Above before n → All (Above (Some n)) ns → All (Above before) ns
through None n ns f a = λ k d l. tt
through (Some before) n ns f a = λ k d l. omega (arith, f, a k d l)

members_kept : (seed : Seed) (game : List ℕ) (before : Option ℕ) (i : ℕ) (ns : List ℕ) → IfOk (members_named seed game before i ns) (λ _. AreMembers seed game before ns)
members_kept seed game before i [] = record { each = All-nil (IsPlayer seed game); first = All-nil (Above before); rest = tt }
members_kept seed game before i (n ∷ ns) =
    let P : Unit {0} → Type 0 = λ _. IsPlayer seed game n × Above before n in
    after P (λ _. AreMembers seed game before (n ∷ ns)) (under (Index i) (member_named seed game before n)) _ (within P (Index i) (member_named seed game before n) (member_kept seed game before n)) (λ first f.
    IfOk-weaker (members_named seed game (Some n) (i + 1) ns) (λ _. AreMembers seed game (Some n) ns) (λ _. AreMembers seed game before (n ∷ ns)) (λ _ r. record {
      each = All-cons (IsPlayer seed game) n ns f.0 r.each;
      first = All-cons (Above before) n ns f.1 (through before n ns f.1 r.first);
      rest = (come_before n ns r.first, r.rest);
    }) (members_kept seed game (Some n) (i + 1) ns))

-- ---- groups

pub record GroupPlays (seed : Seed) (games : List Game) (g : Group) : Type 0 where
  pub game : is_some (find_game games g.game) ≡ true
  pub each : All (IsPlayer seed g.game) g.members
  pub ascend : Ascend nat_cmp g.members

-- after these names
record GroupNamed (seed : Seed) (games : List Game) (before : List (List ℕ)) (g : Group) (p : Game) : Type 0 where
  found : find_game games g.game ≡ Some p
  new : has_name before g.name ≡ false
  plays : GroupPlays seed games g

group_kept : (games : List Game) (seed : Seed) (earlier : List Group) (g : Group) → IfOk (group_named games seed earlier g) (GroupNamed seed games (names_with seed earlier) g)
unfolding group_named
group_kept games seed earlier g =
    let before = names_with seed earlier in
    let Q : Game → Type 0 = GroupNamed seed games before g in
    let N : Unit {0} → Type 0 = λ _. has_name before g.name ≡ false in
    let F : Game → Type 0 = λ p. find_game games g.game ≡ Some p in
    let M : Unit {0} → Type 0 = λ _. AreMembers seed g.game None g.members in
    after N Q (under (Name (codes "name")) (demand DuplicateName (not (has_name before g.name)))) _ (within N (Name (codes "name")) (demand DuplicateName (not (has_name before g.name))) (not_false DuplicateName (has_name before g.name))) (λ differs a.
    after F Q (under (Name (codes "game")) (known (find_game games g.game))) _ (within F (Name (codes "game")) (known (find_game games g.game)) (known_kept (find_game games g.game))) (λ game b.
    after M Q (under (Name (codes "members")) (members_named seed g.game None 0 g.members)) _ (within M (Name (codes "members")) (members_named seed g.game None 0 g.members) (members_kept seed g.game None 0 g.members)) (λ numbers c. record {
      found = b;
      new = a;
      plays = record { game = ap is_some b; each = c.each; ascend = c.rest };
    })))

-- after these groups
pub record AreGrouped (games : List Game) (seed : Seed) (earlier : List Group) (gs : List Group) (ps : List Game) : Type 0 where
  pub plays : GroupsPlay games gs ps
  pub each : All (GroupPlays seed games) gs
  pub differ : Differ (map group_name gs)
  pub new : NewNames (names_with seed earlier) (map group_name gs)

names_with-one : (seed : Seed) (earlier : List Group) (g : Group) → names_with seed (earlier ++ g ∷ []) ≡ names_with seed earlier ++ g.name ∷ []
names_with-one seed earlier g =
    ap (λ (ns : List (List ℕ)). all_names seed.slots ++ ns) (map-append group_name earlier (g ∷ [])) ∙ sym (append_assoc (all_names seed.slots) (map group_name earlier) (g.name ∷ []))

pub groups_kept : (games : List Game) (seed : Seed) (earlier : List Group) (i : ℕ) (gs : List Group) → IfOk (groups_named games seed earlier i gs) (AreGrouped games seed earlier gs)
unfolding IsDistinct
groups_kept games seed earlier i [] = record { plays = tt; each = All-nil (GroupPlays seed games); differ = tt; new = tt }
groups_kept games seed earlier i (g ∷ gs) =
    let before = names_with seed earlier in
    let names = map group_name gs in
    let Q : List Game → Type 0 = AreGrouped games seed earlier (g ∷ gs) in
    let P : Game → Type 0 = GroupNamed seed games before g in
    let R : List Game → Type 0 = AreGrouped games seed (earlier ++ g ∷ []) gs in
    after P Q (under (Index i) (group_named games seed earlier g)) _ (within P (Index i) (group_named games seed earlier g) (group_kept games seed earlier g)) (λ first a.
    after R Q (groups_named games seed (earlier ++ g ∷ []) (i + 1) gs) _ (groups_kept games seed (earlier ++ g ∷ []) (i + 1) gs) (λ others b.
    let new : NewNames (before ++ g.name ∷ []) names = subst (λ ns. NewNames ns names) (names_with-one seed earlier g) b.new in
    let parts : NewNames before names × NewNames (g.name ∷ []) names = split_names before (g.name ∷ []) names new in
    let apart : AllByRecursion (λ y. bytes_eq g.name y ≡ false) names × NewNames [] names = apart_from g.name [] names parts.1 in
    record {
      plays = (a.found, b.plays);
      each = All-cons (GroupPlays seed games) g gs a.plays b.each;
      differ = (apart.0, b.differ);
      new = (a.new, parts.0);
    }))
