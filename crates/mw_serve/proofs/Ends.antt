-- How a life ends whose last call is a commit.
use Rattle.std.proofs.Common.{◌≡◌, ◌∙◌, ◌++◌, ◌∷◌, [], List, drop, refl, sym, ap}
use Rattle.std.proofs.lemmas.List.{append-nil, take-append-drop}
use Rattle.std.proofs.Math.Seq.{drop-length}
use Rattle.mw_protocol.specs.Lives.{Life, Luck, commits, done, committed_of, committed_then, pending_of, life_after, reply_to}
use Rattle.mw_protocol.specs.Records.{Record}
use Rattle.mw_laws.specs.Kept.{LivesKeep, is_done}

none_pending : (life : Life) (ps : List Record) → pending_of life ≡ ps → drop (committed_then life ps) life.room.journal ≡ []
none_pending life [] is = is
none_pending life (r ∷ rs) is = drop-length life.room.journal

-- a commit that is done leaves nothing pending
pub safe_end : LivesKeep → (life : Life) (l : Luck) → done ≡ reply_to life commits l → pending_of (life_after life commits l) ≡ []
safe_end lives life l due =
    let keeps = lives.calls life commits l in let passed = keeps.done.0 (ap is_done (sym due)) in
    ap (λ r. drop (life_after life commits l).committed r.journal) (keeps.room passed) ∙ (ap (λ n. drop n life.room.journal) (keeps.committed passed) ∙ none_pending life (pending_of life) refl)

-- where nothing is pending all is committed
pub all_committed : (life : Life) → pending_of life ≡ [] → committed_of life ≡ life.room.journal
all_committed life is = sym (append-nil (committed_of life)) ∙ (ap (λ rs. committed_of life ++ rs) (sym is) ∙ take-append-drop life.committed life.room.journal)
