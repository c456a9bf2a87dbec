-- Rounds of calls are rounds of the model's cluster.
use Rattle.std.proofs.Common.{◌≡◌, ℕ, suc, List, [], ◌∷◌, length, Some, sym, refl, ap, ◌∙◌, subst, inl, inr, arith}
use Rattle.model.specs.Limits.{Limits}
use Rattle.model.specs.Clock.{Clock}
use Rattle.model.specs.Put.{Put, Body}
use Rattle.model.specs.Replica.{Event, Answer, came, has, tell, clock_is, answer}
use Rattle.model.specs.Cluster.{Cluster, Brought, clock_at, puts_of, stepped}
use Rattle.model.specs.Convergence as model
use Rattle.model.proofs.Converge.{converges}
use Rattle.wire.specs.Answers.{read_answer}
use Rattle.wire.specs.Reading.{read}
use Rattle.wire.specs.Bytes.{write_answer}
use Rattle.endpoint.specs.Life.{System, Run, stop, then}
use Rattle.endpoint.specs.Rounds.{Calm, Comes, Hears, Asks, Round, Rounds, none, more, puts_in}
use Rattle.endpoint.specs.Theorems.{LivesConverge}
use Rattle.endpoint.proofs.Follows.{Follows, call_follows, call_says, run_follows, started_follows, turns}
use Rattle.endpoint.proofs.Lives.{gets_same, tell_answer, tell_says}

-- the same turn
same_turn : (i k : ℕ) (e x : Event) → k ≡ i → x ≡ e → model.turn k x ≡ model.turn i e
same_turn i k e x h g = λ n. model.turn (h n) (g n)

clock_are : (a : Answer) (c d : Clock) → Some a ≡ Some (clock_is c) → a ≡ clock_is d → c ≡ d
clock_are a c d e g = cc

module _ (l : Limits) where
  calm_calls : {w u : System} (r : Run l w u) (v : Cluster) → Follows l w v → Calm r → model.Calm l v (turns r)
  unfolding turns
  calm_calls stop v f c = tt
  calm_calls (then {w = w} i s m b h t a y r) v f c =
      let allowed = subst (λ us. Brought v.made us (read s)) f.told (subst (λ ms. Brought ms w.told (read s)) f.made a) in
      (h, allowed, c.0, calm_calls r (stepped l v i (read s)) (call_follows l w v f i h s m b t a y) c.1)

  comes_calls : {w u : System} (r : Run l w u) (i : ℕ) (ps : List (Put Body)) → Comes i ps r → model.Comes i ps (turns r)
  unfolding turns
  comes_calls stop i [] c = tt
  comes_calls stop i (p ∷ ps) c = absurd c
  comes_calls (then k s m b h t a y r) i [] c = tt
  comes_calls (then k s m b h t a y r) i (p ∷ ps) (inl c) = inl (same_turn i k (came p) (read s) c.0 c.1, comes_calls r i ps c.2)
  comes_calls (then k s m b h t a y r) i (p ∷ ps) (inr c) = inr (comes_calls r i (p ∷ ps) c)

  hears_calls : {w u : System} (r : Run l w u) (v : Cluster) (i j : ℕ) (c : Clock) → Follows l w v → Hears i j c r → model.Hears l i j c v (turns r)
  unfolding turns
  hears_calls stop v i j c f x = absurd x
  hears_calls (then {w = w} k s m b h t a y r) v i j c f (inl x) =
      let same : puts_in (read_answer b) ≡ puts_of (answer l (v.replica j) (has i c)) = ap puts_in (call_says l w v f k h s m b t y).read_back ∙ (λ n. puts_of (answer l (v.replica (x.0 n)) (x.1 n))) in
      inl (same_turn j k (has i c) (read s) x.0 x.1, subst (λ ps. model.Comes i ps (turns r)) same (comes_calls r i (puts_in (read_answer b)) x.2))
  hears_calls (then {w = w} k s m b h t a y r) v i j c f (inr x) = inr (hears_calls r (stepped l v k (read s)) i j c (call_follows l w v f k h s m b t a y) x)

  asks_calls : {w u : System} (r : Run l w u) (v : Cluster) (i j : ℕ) → Follows l w v → Asks i j r → model.Asks l i j v (turns r)
  unfolding turns
  asks_calls stop v i j f x = absurd x
  asks_calls (then {w = w} k s m b h t a y r) v i j f (inl x) =
      let told : answer l (v.replica k) (read s) ≡ clock_is (clock_at v i) = (λ n. answer l (v.replica (x.0 n)) (x.1 n)) ∙ tell_answer l (v.replica i) f.supports in
      let same : x.2.0 ≡ clock_at v i = clock_are (answer l (v.replica k) (read s)) x.2.0 (clock_at v i) (sym (call_says l w v f k h s m b t y).read_back ∙ x.2.1) told in
      inl (same_turn i k tell (read s) x.0 x.1, subst (λ c. model.Hears l i j c (stepped l v k (read s)) (turns r)) same (hears_calls r (stepped l v k (read s)) i j x.2.0 (call_follows l w v f k h s m b t a y) x.2.2))
  asks_calls (then {w = w} k s m b h t a y r) v i j f (inr x) = inr (asks_calls r (stepped l v k (read s)) i j (call_follows l w v f k h s m b t a y) x)

  round_calls : {w u : System} (r : Run l w u) (v : Cluster) → Follows l w v → Round r → model.Round l v (turns r)
  round_calls r v f x = record { calm = calm_calls r v f x.calm; asks = λ i j h g n. asks_calls r v i j f (x.asks i j h g n) }

  -- the rounds of the model, and where they end
  record Rounded (n : ℕ) (u : System) (v : Cluster) : Type 0 where
    pub runs : List (List model.Turn)
    pub many : length runs ≡ n
    pub rounds : model.Rounds l v runs
    pub follows : Follows l u (model.ran_all l v runs)

  rounds_calls : {n : ℕ} {w u : System} → Rounds l n w u → (v : Cluster) → Follows l w v → Rounded n u v
  unfolding model.ran_all
  rounds_calls none v f = record { runs = []; many = refl; rounds = tt; follows = f }
  rounds_calls (more r x rs) v f =
      let rest = rounds_calls rs (model.ran l v (turns r)) (run_follows l r v f) in
      record { runs = turns r ∷ rest.runs; many = ap suc rest.many; rounds = (round_calls r v f x, rest.rounds); follows = rest.follows }

pub lives_converge : LivesConverge
lives_converge l w u n x h rs =
    let v = model.ran l _ (turns x.lived) in
    let f = run_follows l x.lived _ (started_follows l x.birth x.started) in
    let end = rounds_calls l rs v f in
    let all = f.supports in
    let same = converges l v end.runs (all 2, all 3, all 4) f.reach (omega (arith, end.many)) end.rounds in
    let last = model.ran_all l v end.runs in
    record {
      clocks = λ i j a b g k p q. (tell_says l u last end.follows i a g p).written ∙ ap (λ c. write_answer (clock_is c)) (same i j g k).0 ∙ sym (tell_says l u last end.follows j b k q).written;
      views = λ i j g k. gets_same l u last end.follows i j g k (same i j g k).1;
    }
