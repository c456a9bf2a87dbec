-- What holds of the model's cluster holds of the running replicas.
use Rattle.std.proofs.Common.{◌≡◌, ℕ, ◌<◌, ◌≤◌, Bool, true, false, cond, List, [], ◌∷◌, length, take, drop, Some, sym, refl, ap, ◌∙◌, subst, arith}
use Rattle.std.proofs.lemmas.Bool.{leb-true, le-leb}
use Rattle.model.specs.Lists.{In}
use Rattle.model.specs.Limits.{Limits}
use Rattle.model.specs.Clock.{Clock, at, below}
use Rattle.model.specs.Put.{Put, Body, had, number}
use Rattle.model.specs.Store.{of_key, latest}
use Rattle.model.specs.Replica.{Replica, put, get, tell, refused, puts, value, clock_is, event_number, legible, in_range, possible, log_room, queue_room, accepted, refusal, place, says, answer, clock_of}
use Rattle.model.specs.Cluster.{Cluster, clock_at}
use Rattle.model.proofs.Clocks.{below_at}
use Rattle.model.proofs.Cluster.{inv}
use Rattle.model.proofs.Replica.{answer_accepted, pass}
use Rattle.model.proofs.Theorems.{causally_closed, same_clock_same_view, shows_latest}
use Rattle.wire.specs.Bytes.{write_answer}
use Rattle.calls.specs.Answered.{AllSupported}
use Rattle.replies.specs.Written.{Writes, answer_most}
use Rattle.endpoint.proofs.Steps.{back, front}
use Rattle.endpoint.specs.Call.{Calls}
use Rattle.endpoint.specs.Life.{System, Lent, Run, stop, then, Life, Answers, Says, moved}
use Rattle.endpoint.specs.Theorems.{Tells, Lives, SameView, LifeRight, EveryLifeRight, InEveryLife}
use Rattle.endpoint.proofs.Follows.{Follows, answered, run_follows, started_follows}

-- a tell is answered by the clock
pub tell_answer : (l : Limits) (r : Replica) → AllSupported l → answer l r tell ≡ clock_is (clock_of r)
unfolding legible event_number in_range possible log_room queue_room says
tell_answer l r all =
    let can = all 4 in
    answer_accepted l r tell (pass l r tell (record { is_legible = refl; is_valid = grind arith; is_possible = refl; has_log_room = refl; has_queue_room = refl }))

-- bytes are one answer
clock_same : (c d : Clock) → Some (clock_is c) ≡ Some (clock_is d) → c ≡ d
clock_same c d e = cc

pub one_clock : (b : List ℕ) (c d : Clock) → Says b (clock_is c) → Says b (clock_is d) → c ≡ d
one_clock b c d x y = clock_same c d (sym x.read_back ∙ y.read_back)

puts_same : (ps qs : List (Put Body)) → Some (puts ps) ≡ Some (puts qs) → ps ≡ qs
puts_same ps qs e = cc

puts_refused : (ps : List (Put Body)) (n k : ℕ) → Some (puts ps) ≡ Some (refused n k) → ⊥
puts_refused ps n k e = let z : ◌≡◌ {A = ℕ} 0 1 = cc in omega arith

-- a put that is answered by puts was made
made_puts : (y : Bool) (p : Put Body) (n k : ℕ) (ps : List (Put Body)) → Some (puts ps) ≡ Some (cond y (puts (p ∷ [])) (refused n k)) → ps ≡ p ∷ []
made_puts true p n k ps e = puts_same ps (p ∷ []) e
made_puts false p n k ps e = absurd (puts_refused ps n k e)

module _ (l : Limits) (w : System) (v : Cluster) (f : Follows l w v) where
  pub tell_says : (i : ℕ) (b : List ℕ) → i < l.replicas → Answers w i tell b → Says b (clock_is (clock_at v i))
  tell_says i b h a = subst (Says b) (tell_answer l (v.replica i) f.supports) (answered l w v f i h tell b a)

  clock_told : (i : ℕ) (c : Clock) → i < l.replicas → Tells w i c → c ≡ clock_at v i
  clock_told i c h t = one_clock t.bytes c (clock_at v i) t.says (tell_says i t.bytes h t.answers)

  lives : (i : ℕ) → i < l.replicas → Lives l w i
  unfolding says
  lives i h = record {
    tells = λ b a. (clock_at v i, tell_says i b h a);
    shows_latest = λ c k b t g a.
        subst (λ d. Says b (value (latest (of_key k d w.made)))) (sym (clock_told i c h t))
        (subst (λ ms. Says b (value (latest (of_key k (clock_at v i) ms)))) (sym f.made)
        (subst (Says b) (shows_latest l v i k f.reach g (f.supports 1)) (answered l w v f i h (get k) b a)));
    closed = λ c p t y g.
        let same = clock_told i c h t in
        let made = subst (In p) f.made y in
        let here = subst (λ d. had d p ≡ true) same g in
        let low = subst (λ d. below p.seen d ≡ true) (sym same) ((causally_closed l v i p f.reach made).0 here) in
        (low, λ q z k. le-leb (number q) (at c q.from) (let a = leb-true (number q) (at p.seen q.from) k in let b = below_at p.seen c low q.from in omega arith));
    own = λ c p t y e. subst (λ d. had d p ≡ true) (sym (clock_told i c h t)) ((causally_closed l v i p f.reach (subst (In p) f.made y)).1 e);
    stamps = λ c x b ps t a y.
        let r = v.replica i in
        let e = sym y.read_back ∙ (answered l w v f i h (put x) b a).read_back in
        made_puts (accepted l r (put x)) (record { from = r.delivery.me; seen = clock_at v i; body = x }) (refusal l r (put x)) (place (put x)) ps e
        ∙ (λ k. record { from = (inv l f.reach).me i k; seen = sym (clock_told i c h t) k; body = x } ∷ []);
  }

  pub gets_same : (i j : ℕ) → i < l.replicas → j < l.replicas → ((k : ℕ) → answer l (v.replica i) (get k) ≡ answer l (v.replica j) (get k)) → SameView w i j
  gets_same i j h g same k x y a b = (answered l w v f i h (get k) x a).written ∙ ap write_answer (same k) ∙ sym (answered l w v f j g (get k) y b).written

  life_right : LifeRight l w
  life_right = record {
    each = lives;
    same = λ i j t h g a b. gets_same i j h g (λ k. same_clock_same_view l v i j k f.reach (one_clock t (clock_at v i) (clock_at v j) (tell_says i t h a) (tell_says j t g b)));
  }

pub every_life_right : EveryLifeRight
every_life_right l w x = life_right l w _ (run_follows l x.lived _ (started_follows l x.birth x.started))

-- one call more
pub run_on : {l : Limits} {w u v : System} → Run l w u → Run l u v → Run l w v
run_on stop q = q
run_on (then i s m b h t a c r) q = then i s m b h t a c (run_on r q)

pub lives_on : (m s m' b : List ℕ) → Lent s → Calls m s m' b → InEveryLife m s m' b
lives_on m s m' b t c l w i x h e a =
    let here : Calls (w.memory i) s m' b = subst (λ y. Calls y s m' b) (sym e) c in
    let on : Life l (moved w i s m' b) = record { birth = x.birth; started = x.started; lived = run_on x.lived (then i s m' b h t a here stop) } in
    record {
      life = on;
      right = every_life_right l (moved w i s m' b) on;
      shows_latest = λ d k g n tells. ((every_life_right l w x).each i h).shows_latest d k b tells n (record { bytes = s; lent = t; are = g; left = m'; calls = here });
    }

-- what a call gives, of the bytes that it wrote
pub gives : (n : ℕ) (m s m' before after : List ℕ) (P : List ℕ → Type 0) (w : Writes n before after P) → answer_most ≤ length before → Lent s → Calls m s m' w.bytes →
    ((answer_most ≤ length before) × (n ≤ answer_most) × Calls m s m' (take n after) × (drop n after ≡ drop n before)) × InEveryLife m s m' (take n after)
gives n m s m' before after P w h t c =
    let calls = subst (Calls m s m') (sym (front n before after P w)) c in
    ((h, w.most, calls, back n before after P w), lives_on m s m' (take n after) t calls)
