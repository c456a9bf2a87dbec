-- What was written, up to its end.
use Rattle.std.proofs.Common.{◌≡◌, ℕ, List, take, drop, IfOk, Some, None, Ok, Err, vec_items, Option, Result, Vec, sym, ap, ◌∙◌, MatchOption}
use Rattle.std.specs.declared.alloc.AllocError.{AllocError}
use Rattle.std.specs.declared.alloc.Global.{Global}
use Rattle.std.proofs.lemmas.List.{take_at}
use Rattle.wire_out.specs.Written.{Written}

pub cut_off : (w before after all : List ℕ) (o : Option ℕ) (r : Result (Vec ℕ Global) AllocError) → Written o before after w → all ≡ after → IfOk r (λ v. MatchOption o ⊥ (λ n. vec_items v ≡ take n all)) → IfOk r (λ v. vec_items v ≡ w)
cut_off w before after all o (Err e) h same g = tt
cut_off w before after all None (Ok v) h same g = absurd g
cut_off w before after all (Some n) (Ok v) h same g = g ∙ ap (take n) (same ∙ h.1) ∙ take_at w (drop n before) n (sym h.0)

-- the same, said of equal bytes
pub said_of : (w u : List ℕ) (r : Result (Vec ℕ Global) AllocError) → w ≡ u → IfOk r (λ v. vec_items v ≡ w) → IfOk r (λ v. vec_items v ≡ u)
said_of w u (Ok v) e h = h ∙ e
said_of w u (Err a) e h = tt
