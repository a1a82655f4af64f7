-- From runs without checkpoints to those with them.
use Rattle.std.proofs.Common.{◌≡◌, inl, inr, ℕ, ◌+◌, ◌==◌, ◌&&◌, ◌||◌, ◌≤◌, List, Bool, true, false, cond, zero, suc, ◌∷◌, [], ◌++◌, Option, Some, None, IsTrue, IsFalse, All, Contains, is_some, unwrap_or, map, length, take, drop, refl, sym, ap, ap₂, subst, ◌∙◌, arith, true≢false}
use Rattle.std.proofs.lemmas.List.{drop-map, map-append, take-append-drop, take-map, take_at, drop_at, length-map}
use Rattle.std.specs.List.{list_all, list_any}
use Rattle.mw_model.specs.Items.{NetItem}
use Rattle.mw_model.specs.Seed.{Seed}
use Rattle.mw_protocol.specs.Asked.{checked, view}
use Rattle.mw_protocol.specs.Checks.{view_in}
use Rattle.mw_protocol.specs.Connecting.{Member}
use Rattle.mw_protocol.specs.Lives as lives
use Rattle.mw_protocol.specs.Lives.{Life, Luck, takes, untaken_in, reply_to}
use Rattle.mw_protocol.specs.Messages.{ServerPacket, received_items}
use Rattle.mw_protocol.specs.Records.{Record}
use Rattle.mw_protocol.specs.Rooms.{Message, Session, session_in, member_in, untaken_of}
use Rattle.mw_protocol.specs.Shown.{shown, shown_among}
use Rattle.mw_laws.specs.Applied as applied
use Rattle.mw_laws.specs.Applied.{Client, ClientsApply, IsFrontOf, applied_messages, applied_packets, has_items, having}
use Rattle.mw_laws.specs.Kept as plain
use Rattle.mw_laws.specs.Kept.{Passes, LivesKeep, is_done}
use Rattle.mw_laws.specs.Shows.{MayPlayAs, ShowsChecked, ShownIsChecked}
use Rattle.mw_laws.specs.Tails as tails
use Rattle.mw_laws.specs.Tails.{TailsOfTheLastView, taking}
use Rattle.mw_laws.specs.Views.{is_received_items}
use Rattle.mw_thinning.specs.Across.{is_call, took, ShownAcross, AreTails, TailsAcross, MaskStays, MaskSince, IsHeard, owed_before, owed_since, ClientsAcross}
use Rattle.mw_thinning.specs.Checkpoints.{Step, goes, unthinned, plain_run, life_after_all, journal_after}
use Rattle.mw_thinning.specs.Histories.{Heard, heard, heard_in, packets_in}
use Rattle.mw_thinning.specs.Same.{Same}
use Rattle.mw_thinning.proofs.Checkpoints.{checkpoints_change_nothing}

abbrev is_nil : {A : Type 0} → List A → Bool
is_nil [] = true
is_nil (x ∷ xs) = false

abbrev head_or : {A : Type 0} → A → List A → A
head_or other [] = other
head_or other (x ∷ xs) = x

abbrev tail_of : {A : Type 0} → List A → List A
tail_of [] = []
tail_of (x ∷ xs) = xs

some_same : {A : Type 0} (x y : A) → Some x ≡ Some y → x ≡ y
some_same x y e = ap (λ o. unwrap_or o x) e

-- ---- all messages of lists with the same packets

module _ (P Q : Message → Type 0) (carry : (m n : Message) → m.packets ≡ n.packets → P m → Q n) where
  pub all_carried : (ms ns : List Message) → map packets_in ms ≡ map packets_in ns → All P ms → All Q ns
  all_carried ms [] same all k d lt = absurd (omega arith)
  all_carried [] (n ∷ ns) same all k d lt = absurd (true≢false (ap is_nil same))
  all_carried (m ∷ ms) (n ∷ ns) same all zero d lt = carry m n (ap (head_or m.packets) same) (all zero n (omega arith))
  all_carried (m ∷ ms) (n ∷ ns) same all (suc k) d lt = all_carried ms ns (ap tail_of same) (λ i e less. all (suc i) e (omega (arith, less))) k d (omega (arith, lt))

-- ---- what is heard of sessions

abbrev heard_untaken : ℕ → List Heard → List (List ServerPacket)
heard_untaken number [] = []
heard_untaken number (h ∷ hs) = cond (h.number == number) (drop h.taken h.owed) (heard_untaken number hs)

abbrev heard_member : ℕ → List Heard → Option Member
heard_member number [] = None
heard_member number (h ∷ hs) = cond (h.number == number) h.member (heard_member number hs)

abbrev heard_length : ℕ → List Heard → ℕ
heard_length number [] = 0
heard_length number (h ∷ hs) = cond (h.number == number) (length h.owed) (heard_length number hs)

untaken_heard : (number : ℕ) (ss : List Session) → map packets_in (untaken_of (session_in ss number)) ≡ heard_untaken number (map heard ss)
untaken_heard number [] = refl
untaken_heard number (s ∷ ss) =
    elim (s.number == number) as (λ b. map packets_in (untaken_of (cond b (Some s) (session_in ss number))) ≡ cond b (drop s.taken (map packets_in s.owed)) (heard_untaken number (map heard ss))) [
      | true ↦ sym (drop-map packets_in s.taken s.owed)
      | false ↦ untaken_heard number ss
    ]

member_heard : (number : ℕ) (ss : List Session) → member_in ss number ≡ heard_member number (map heard ss)
member_heard number [] = refl
member_heard number (s ∷ ss) = ap (cond (s.number == number) s.member) (member_heard number ss)

pub untaken_alike : (one two : Life) (number : ℕ) → heard_in one ≡ heard_in two → map packets_in (untaken_in one number) ≡ map packets_in (untaken_in two number)
untaken_alike one two number same = untaken_heard number one.room.sessions ∙ ap (heard_untaken number) same ∙ sym (untaken_heard number two.room.sessions)

pub member_alike : (one two : Life) (number : ℕ) → heard_in one ≡ heard_in two → member_in one.room.sessions number ≡ member_in two.room.sessions number
member_alike one two number same = member_heard number one.room.sessions ∙ ap (heard_member number) same ∙ sym (member_heard number two.room.sessions)

-- the session of the same number
record Twin (ts : List Session) (number : ℕ) (s : Session) : Type 0 where
  twin : Session
  found : session_in ts number ≡ Some twin
  alike : heard twin ≡ heard s

found_twin : (ss ts : List Session) (number : ℕ) (s : Session) → map heard ss ≡ map heard ts → session_in ss number ≡ Some s → Twin ts number s
found_twin [] ts number s same found = absurd (true≢false (sym (ap is_some found)))
found_twin (r ∷ ss) [] number s same found = absurd (true≢false (sym (ap is_nil same)))
found_twin (r ∷ ss) (t ∷ ts) number s same found =
    let first : heard r ≡ heard t = ap (head_or (heard r)) same in
    elim (r.number == number) as (λ b. (r.number == number) ≡ b → cond b (Some r) (session_in ss number) ≡ Some s → Twin (t ∷ ts) number s) [
      | true ↦ λ is e. record {
        twin = t;
        found = ap (λ b. cond b (Some t) (session_in ts number)) (ap (λ (h : Heard). h.number == number) (sym first) ∙ is);
        alike = sym first ∙ ap heard (some_same r s e);
      }
      | false ↦ λ apart e.
          let rest = found_twin ss ts number s (ap tail_of same) e in record {
            twin = rest.twin;
            found = ap (λ b. cond b (Some t) (session_in ts number)) (ap (λ (h : Heard). h.number == number) (sym first) ∙ apart) ∙ rest.found;
            alike = rest.alike;
          }
    ] refl found

-- ---- runs

run_took : (steps : List Step) (number : ℕ) (luck : Luck) (more : List Step) → plain_run (took steps number luck more) ≡ plain_run steps ++ taking number luck ∷ plain_run more
run_took steps number luck more = map-append unthinned steps (goes (taking number luck) ∷ more)

-- a view by journals that come to the same
view_same : (seed : Seed) (mask team slot : ℕ) (xs ys : List Record) → Same seed xs ys → view seed mask team slot xs ≡ view seed mask team slot ys
view_same seed mask team slot xs ys same = ap (view_in seed mask team slot) same.checked

-- a call passes in both runs
pub passed_alike : LivesKeep → (seed : Seed) (steps : List Step) (call : lives.Call) (luck : Luck) → Passes (life_after_all seed steps) call luck → Passes (lives.life_after_all seed (plain_run steps)) call luck
passed_alike keep seed steps call luck passes =
    let one = life_after_all seed steps in
    let two = lives.life_after_all seed (plain_run steps) in
    (keep.calls two call luck).done.0 (subst (λ reply. IsTrue (is_done reply)) ((checkpoints_change_nothing seed steps).answers call luck) ((keep.calls one call luck).done.1 passes))

pub shown_across : LivesKeep → ShownIsChecked → ShownAcross
shown_across keep law seed steps number luck m passes plays more =
    let one = life_after_all seed steps in
    let two = lives.life_after_all seed (plain_run steps) in
    let same = (checkpoints_change_nothing seed steps).sessions in
    let later = took steps number luck more in
    let journal = plain.journal_after seed (plain_run steps ++ taking number luck ∷ plain_run more) in
    let checks : Same seed (journal_after seed later) journal = subst (λ run. Same seed (journal_after seed later) (plain.journal_after seed run)) (run_took steps number luck more) (checkpoints_change_nothing seed later).journals in
    all_carried (ShowsChecked seed journal m) (ShowsChecked seed (journal_after seed later) m)
    (λ a b packets shows. subst (λ cs. All (Contains cs) (shown m b)) (sym checks.checked) (subst (λ ps. All (Contains (checked seed journal)) (shown_among m.team m.slot ps)) packets shows))
    (untaken_in two number) (untaken_in one number) (sym (untaken_alike one two number same))
    (law.taken seed (plain_run steps) number luck m (passed_alike keep seed steps (takes number) luck passes) (subst (MayPlayAs m) (member_alike one two number same) plays) (plain_run more))

pub tails_across : LivesKeep → TailsOfTheLastView → TailsAcross
tails_across keep law seed steps number luck passes =
    let one = life_after_all seed steps in
    let two = lives.life_after_all seed (plain_run steps) in
    let same = (checkpoints_change_nothing seed steps).sessions in
    all_carried (tails.AreTails seed (plain_run steps) number luck) (AreTails seed steps number luck)
    (λ a b packets are index items has.
    let t = are index items (subst (λ ps. Contains ps (received_items index items)) (sym packets) has) in record {
      twin = a;
      packets = packets;
      tail = t;
      last = λ more. t.last (plain_run more) ∙ ap (λ v. take (length items) (drop index v)) (seen t.member.mask t.member.team t.member.slot more);
    })
    (untaken_in two number) (untaken_in one number) (sym (untaken_alike one two number same))
    (law.taken seed (plain_run steps) number luck (passed_alike keep seed steps (takes number) luck passes))
  where
    seen : (mask team slot : ℕ) (more : List Step) → view seed mask team slot (plain.journal_after seed (plain_run steps ++ taking number luck ∷ plain_run more)) ≡ view seed mask team slot (journal_after seed (took steps number luck more))
    seen mask team slot more =
        let later = took steps number luck more in
        ap (λ run. view seed mask team slot (plain.journal_after seed run)) (sym (run_took steps number luck more))
        ∙ sym (view_same seed mask team slot (journal_after seed later) (plain.journal_after seed (plain_run later)) (checkpoints_change_nothing seed later).journals)

-- ---- clients

abbrev applied_lists : Client → List (List ServerPacket) → Client
applied_lists c [] = c
applied_lists c (ps ∷ pss) = applied_lists (applied_packets c ps) pss

applied_heard : (c : Client) (ms : List Message) → applied_messages c ms ≡ applied_lists c (map packets_in ms)
applied_heard c [] = refl
applied_heard c (m ∷ ms) = applied_heard (applied_packets c m.packets) ms

all_calls : (steps : List Step) → list_all is_call steps ≡ list_all plain.is_call (plain_run steps)
all_calls [] = refl
all_calls (s ∷ ss) = ap (λ b. is_call s && b) (all_calls ss)

-- the parts of a run are those of the plain one
mask_alike : (seed : Seed) (steps : List Step) (number mask : ℕ) → MaskStays seed steps number mask → applied.MaskStays seed (plain_run steps) number mask
mask_alike seed steps number mask stays front back m run calls member =
    let n = length front in
    let first = take n steps in
    let rest = drop n steps in
    let front_is : plain_run first ≡ front = sym (take-map unthinned n steps) ∙ ap (take n) run ∙ take_at front back n refl in
    let back_is : plain_run rest ≡ back = sym (drop-map unthinned n steps) ∙ ap (drop n) run ∙ drop_at front back n refl in
    stays first rest m (sym (take-append-drop n steps)) (all_calls rest ∙ ap (list_all plain.is_call) back_is ∙ calls)
    (member_alike (life_after_all seed first) (lives.life_after_all seed (plain_run first)) number (checkpoints_change_nothing seed first).sessions
    ∙ ap (λ r. member_in (lives.life_after_all seed r).room.sessions number) front_is ∙ member)

-- ---- the session of a number in both runs

module _ (seed : Seed) (steps : List Step) (number : ℕ) (s : Session) (found : session_in (life_after_all seed steps).room.sessions number ≡ Some s) where
  abbrev twin_of : Twin (lives.life_after_all seed (plain_run steps)).room.sessions number s
  twin_of = found_twin (life_after_all seed steps).room.sessions (lives.life_after_all seed (plain_run steps)).room.sessions number s (checkpoints_change_nothing seed steps).sessions found

owed_alike : (t s : Session) → heard t ≡ heard s → map packets_in t.owed ≡ map packets_in s.owed
owed_alike t s alike = ap (λ (h : Heard). h.owed) alike

-- what a client makes of messages with the same packets
applied_alike : (c : Client) (ms ns : List Message) → map packets_in ms ≡ map packets_in ns → applied_messages c ms ≡ applied_messages c ns
applied_alike c ms ns same = applied_heard c ms ∙ ap (applied_lists c) same ∙ sym (applied_heard c ns)

-- of so many of those from a place on
part_alike : (t s : Session) → heard t ≡ heard s → (from count : ℕ) → map packets_in (take count (drop from t.owed)) ≡ map packets_in (take count (drop from s.owed))
part_alike t s alike from count =
    sym (take-map packets_in count (drop from t.owed)) ∙ ap (take count) (sym (drop-map packets_in from t.owed) ∙ ap (drop from) (owed_alike t s alike) ∙ drop-map packets_in from s.owed)
    ∙ take-map packets_in count (drop from s.owed)

heard_alike : (t s : Session) → heard t ≡ heard s → (count : ℕ) (more : List Step) → IsHeard s count more → applied.IsHeard t count (plain_run more)
heard_alike t s alike count more (inl calls) = inl (sym (all_calls more) ∙ calls)
heard_alike t s alike count more (inr within) = inr (subst (λ n. count ≤ n) (sym (ap (λ (h : Heard). h.taken) alike)) within)

-- views of a later point
seen_later : (seed : Seed) (steps more : List Step) (m : Member) → view seed m.mask m.team m.slot (plain.journal_after seed (plain_run steps ++ plain_run more)) ≡ view seed m.mask m.team m.slot (journal_after seed (steps ++ more))
seen_later seed steps more m =
    ap (λ run. view seed m.mask m.team m.slot (plain.journal_after seed run)) (sym (map-append unthinned steps more))
    ∙ sym (view_same seed m.mask m.team m.slot (journal_after seed (steps ++ more)) (plain.journal_after seed (plain_run (steps ++ more))) (checkpoints_change_nothing seed (steps ++ more)).journals)

abbrev any_items : List (List ServerPacket) → Bool
any_items [] = false
any_items (ps ∷ pss) = list_any is_received_items ps || any_items pss

items_heard : (ms : List Message) → has_items ms ≡ any_items (map packets_in ms)
items_heard [] = refl
items_heard (m ∷ ms) = ap (λ b. list_any is_received_items m.packets || b) (items_heard ms)

heard_count : (number : ℕ) (ss : List Session) → length (applied.owed_of (session_in ss number)) ≡ heard_length number (map heard ss)
heard_count number [] = refl
heard_count number (s ∷ ss) =
    elim (s.number == number) as (λ b. length (applied.owed_of (cond b (Some s) (session_in ss number))) ≡ cond b (length (map packets_in s.owed)) (heard_length number (map heard ss))) [
      | true ↦ sym (length-map s.owed packets_in)
      | false ↦ heard_count number ss
    ]

before_alike : (seed : Seed) (front : List Step) (number : ℕ) → owed_before seed front number ≡ applied.owed_before seed (plain_run front) number
before_alike seed front number =
    heard_count number (life_after_all seed front).room.sessions ∙ ap (heard_length number) (checkpoints_change_nothing seed front).sessions
    ∙ sym (heard_count number (lives.life_after_all seed (plain_run front)).room.sessions)

-- the points of a life are those of the plain one
since_alike : (seed : Seed) (front back : List Step) (number mask : ℕ) → MaskSince seed front back number mask → applied.MaskSince seed (plain_run front) (plain_run back) number mask
since_alike seed front back number mask since = record {
  calls = sym (all_calls back) ∙ since.calls;
  other = λ m member. since.other m (member_alike (life_after_all seed front) (lives.life_after_all seed (plain_run front)) number (checkpoints_change_nothing seed front).sessions ∙ member);
  since = λ first s rest m run member. split first s rest m run member;
}
  where
    split : (first : List lives.Step) (s : lives.Step) (rest : List lives.Step) (m : Member) → plain_run back ≡ first ++ s ∷ rest
        → member_in (lives.life_after_all seed (plain_run front ++ first ++ s ∷ [])).room.sessions number ≡ Some m → m.mask ≡ mask
    split first s rest m run member =
        let n = length first in
        let early = take n back in
        let late = drop n back in
        let early_is : plain_run early ≡ first = sym (take-map unthinned n back) ∙ ap (take n) run ∙ take_at first (s ∷ rest) n refl in
        let late_is : plain_run late ≡ s ∷ rest = sym (drop-map unthinned n back) ∙ ap (drop n) run ∙ drop_at first (s ∷ rest) n refl in
        at late late_is early early_is (sym (take-append-drop n back))
      where
        at : (late : List Step) → plain_run late ≡ s ∷ rest → (early : List Step) → plain_run early ≡ first → back ≡ early ++ late → m.mask ≡ mask
        at [] late_is early early_is run = absurd (true≢false (ap is_nil late_is))
        at (step ∷ later) late_is early early_is run =
            since.since early step later m run (
            member_alike (life_after_all seed (front ++ early ++ step ∷ [])) (lives.life_after_all seed (plain_run (front ++ early ++ step ∷ []))) number (checkpoints_change_nothing seed (front ++ early ++ step ∷ [])).sessions
            ∙ ap (λ r. member_in (lives.life_after_all seed r).room.sessions number)
            (map-append unthinned (front ++ early) (step ∷ []) ∙ ap₂ (λ xs ys. xs ++ ys) (map-append unthinned front early ∙ ap (λ xs. plain_run front ++ xs) early_is) (ap (λ x. x ∷ []) (ap (head_or (unthinned step)) late_is)))
            ∙ member
            )

connected_across : ClientsApply → (seed : Seed) (steps : List Step) (number : ℕ) (s : Session) (m : Member) → session_in (life_after_all seed steps).room.sessions number ≡ Some s → s.member ≡ Some m
    → MaskStays seed steps number m.mask → (count : ℕ) (more : List Step) → IsHeard s count more
    → IsFrontOf (view seed m.mask m.team m.slot (journal_after seed (steps ++ more))) (applied_messages (having []) (take count s.owed))
connected_across law seed steps number s m found plays stays count more hears =
    let t = twin_of seed steps number s found in
    let plain_view = view seed m.mask m.team m.slot (plain.journal_after seed (plain_run steps ++ plain_run more)) in
    subst (λ v. IsFrontOf v (applied_messages (having []) (take count s.owed))) (seen_later seed steps more m) (
    subst (IsFrontOf plain_view) (applied_alike (having []) (take count t.twin.owed) (take count s.owed) (part_alike t.twin s t.alike 0 count))
    (law.connected seed (plain_run steps) number t.twin m t.found (ap (λ (h : Heard). h.member) t.alike ∙ plays) (mask_alike seed steps number m.mask stays) count (plain_run more) (heard_alike t.twin s t.alike count more hears))
    )

heard_across : ClientsApply → (seed : Seed) (steps : List Step) (number : ℕ) (s : Session) (m : Member) → session_in (life_after_all seed steps).room.sessions number ≡ Some s → s.member ≡ Some m
    → MaskStays seed steps number m.mask → IsFalse s.overrun → (applied_messages (having []) s.owed).list ≡ view seed m.mask m.team m.slot (journal_after seed steps)
heard_across law seed steps number s m found plays stays fits =
    let t = twin_of seed steps number s found in
    ap (λ (c : Client). c.list) (applied_alike (having []) s.owed t.twin.owed (sym (owed_alike t.twin s t.alike)))
    ∙ law.heard seed (plain_run steps) number t.twin m t.found (ap (λ (h : Heard). h.member) t.alike ∙ plays) (mask_alike seed steps number m.mask stays) (ap (λ (h : Heard). h.overrun) t.alike ∙ fits)
    ∙ sym (view_same seed m.mask m.team m.slot (journal_after seed steps) (plain.journal_after seed (plain_run steps)) (checkpoints_change_nothing seed steps).journals)

changed_across : ClientsApply → (seed : Seed) (front back : List Step) (number : ℕ) (s : Session) (m : Member) → session_in (life_after_all seed (front ++ back)).room.sessions number ≡ Some s → s.member ≡ Some m
    → MaskSince seed front back number m.mask → (list : List NetItem) (count : ℕ) (more : List Step) → IsHeard s (owed_before seed front number + count) more
    → IsTrue (has_items (take count (owed_since seed front number s)))
    → IsFrontOf (view seed m.mask m.team m.slot (journal_after seed ((front ++ back) ++ more))) (applied_messages (having list) (take count (owed_since seed front number s)))
changed_across law seed front back number s m found plays since list count more hears has =
    let t = twin_of seed (front ++ back) number s found in
    let both : plain_run (front ++ back) ≡ plain_run front ++ plain_run back = map-append unthinned front back in
    let from = owed_before seed front number in
    let place : from ≡ applied.owed_before seed (plain_run front) number = before_alike seed front number in
    let found_plain : session_in (lives.life_after_all seed (plain_run front ++ plain_run back)).room.sessions number ≡ Some t.twin =
    ap (λ run. session_in (lives.life_after_all seed run).room.sessions number) (sym both) ∙ t.found in
    let own = take count (applied.owed_since seed (plain_run front) number t.twin) in
    let same : map packets_in own ≡ map packets_in (take count (owed_since seed front number s)) =
    ap (λ n. map packets_in (take count (drop n t.twin.owed))) (sym place) ∙ part_alike t.twin s t.alike from count in
    let seen : view seed m.mask m.team m.slot (plain.journal_after seed ((plain_run front ++ plain_run back) ++ plain_run more)) ≡ view seed m.mask m.team m.slot (journal_after seed ((front ++ back) ++ more)) =
    ap (λ run. view seed m.mask m.team m.slot (plain.journal_after seed (run ++ plain_run more))) (sym both) ∙ seen_later seed (front ++ back) more m in
    subst (λ v. IsFrontOf v (applied_messages (having list) (take count (owed_since seed front number s)))) seen (
    subst (IsFrontOf (view seed m.mask m.team m.slot (plain.journal_after seed ((plain_run front ++ plain_run back) ++ plain_run more)))) (applied_alike (having list) own (take count (owed_since seed front number s)) same)
    (law.changed seed (plain_run front) (plain_run back) number t.twin m found_plain (ap (λ (h : Heard). h.member) t.alike ∙ plays) (since_alike seed front back number m.mask since) list count (plain_run more)
    (subst (λ n. applied.IsHeard t.twin (n + count) (plain_run more)) place (heard_alike t.twin s t.alike (from + count) more hears))
    (items_heard own ∙ ap any_items same ∙ sym (items_heard (take count (owed_since seed front number s))) ∙ has))
    )

pub clients_across : ClientsApply → ClientsAcross
clients_across law = record { connected = connected_across law; heard = heard_across law; changed = changed_across law }
