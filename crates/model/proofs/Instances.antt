-- Premises met: reachability step by step, the rest by computing.
use Rattle.std.proofs.Common.{◌≡◌, ℕ, [], ◌∷◌, refl, ap, inl, inr, arith}
use Rattle.model.specs.Clock.{at}
use Rattle.model.specs.Put.{Put, Body, text}
use Rattle.model.specs.Replica.{put, get, came, has, tell}
use Rattle.model.specs.Cluster.{Reachable, start, step, trace}
use Rattle.model.specs.Convergence.{ask_all, ask_rounds, asks_below, all_pairs}
use Rattle.model.specs.Program.{all_below, readable, all_readable}
use Rattle.model.specs.Example.{three, clock3, a1, b1, c1}
use Rattle.model.specs.Instances.{played, after_rows, two, behind, PremisesMet}
use Rattle.model.proofs.Orders.{rounds_happen}
use Rattle.model.proofs.Example.{opens}

reach_1 : Reachable three (after_rows 1)
unfolding opens played
reach_1 = step 0 (put (text 0 (7 ∷ []))) start (omega arith) tt

reach_9 : Reachable three (after_rows 9)
unfolding opens played
reach_9 =
    let x1 = step 1 (came a1) reach_1 (omega arith) (inl refl) in
    let x2 = step 1 (put (text 0 (8 ∷ []))) x1 (omega arith) tt in
    let x3 = step 2 (came b1) x2 (omega arith) (inl refl) in
    let x4 = step 2 (get 0) x3 (omega arith) tt in
    let x5 = step 2 (put (text 0 (9 ∷ []))) x4 (omega arith) tt in
    let x6 = step 2 (came b1) x5 (omega arith) (inr (inl refl)) in
    let x7 = step 2 (came a1) x6 (omega arith) (inr (inr (inl refl))) in
    let x8 = step 2 (get 0) x7 (omega arith) tt in
    let x9 = step 0 (came c1) x8 (omega arith) (inl refl) in
    let x10 = step 0 (get 0) x9 (omega arith) tt in
    let x11 = step 0 (came b1) x10 (omega arith) (inr (inl refl)) in
    let x12 = step 0 (get 0) x11 (omega arith) tt in
    let x13 = step 1 (came c1) x12 (omega arith) (inl refl) in
    step 1 (get 0) x13 (omega arith) tt

reach_14 : Reachable three (after_rows 14)
unfolding opens played
reach_14 =
    let x14 = step 0 (put (text 1 (5 ∷ []))) reach_9 (omega arith) tt in
    let x15 = step 0 (put (text 1 (6 ∷ []))) x14 (omega arith) tt in
    let x16 = step 1 (came c1) x15 (omega arith) (inr (inl refl)) in
    let x17 = step 1 tell x16 (omega arith) tt in
    let x18 = step 0 (has 1 (clock3 1 1 1)) x17 (omega arith) (inl refl) in
    let x19 = step 2 tell x18 (omega arith) tt in
    step 0 (has 2 (clock3 1 1 1)) x19 (omega arith) (inl refl)

reach_15 : Reachable three (after_rows 15)
unfolding opens played
reach_15 = step 0 (put (text 1 (6 ∷ []))) reach_14 (omega arith) tt

reach_two : Reachable two behind
reach_two = step 1 (put (text 0 (2 ∷ []))) (step 0 (put (text 0 (1 ∷ []))) start (omega arith) tt) (omega arith) tt

pub premises_met : PremisesMet
unfolding opens played ask_all ask_rounds asks_below all_pairs all_below readable all_readable trace reach_1 reach_9 reach_14 reach_15
premises_met =
    record {
      reachable = reach_15;
      reachable_1 = reach_1;
      reachable_9 = reach_9;
      reachable_14 = reach_14;
      refused = omega arith;
      again = refl;
      shown = refl;
      made = (inr (inr (inr (inr (inl refl)))), inr (inr (inr (inl refl))), inr (inr (inl refl)));
      seen = refl;
      taken = refl;
      same_clock = refl;
      accepted = refl;
      came = (inl refl, refl);
      pruned = (inr (inr (inr (inl refl))), λ j. elim j [ inl e ↦ (let z : ◌≡◌ {A = ℕ} 0 1 = ap (λ (q : Put Body). at q.seen 0) e in omega arith) | inr k ↦ k ]);
      reachable_two = reach_two;
      rounds = rounds_happen two behind 2 (refl, refl, refl) reach_two;
      lacking = refl;
      converged = refl;
      good_limits = record { replicas = (omega arith, omega arith); keys = (omega arith, omega arith); log_most = (omega arith, omega arith); waiting_most = omega arith; supports = λ k. refl };
      readable = refl;
    }
