-- The puts made in a play.
use Rattle.std.proofs.Common.{◌≡◌, ℕ, zero, suc, ◌-◌, ◌<◌, List, [], ◌∷◌, ◌++◌, map, length, get_or, take, set, vec_items, Vec, sym, ap, ◌∙◌, arith}
use lib.ListN.{length-map}
use Rattle.std.specs.declared.alloc.Global.{Global}
use Rattle.std.proofs.lemmas.List.{drop_more, get_or-map, map_push, map-set}
use Rattle.player.specs.Remembered.{one_more, put_made}

abbrev pub bytes_of : Vec (Vec ℕ Global) Global → List (List ℕ)
bytes_of v = map vec_items (vec_items v)

-- put number n of replica j, by the puts of j
pub there : (pss : List (List (List ℕ))) (j n : ℕ) (d : List ℕ) → 0 < n → n - 1 < length (get_or pss j []) → put_made pss j n ≡ get_or (get_or pss j []) (n - 1) d ∷ []
there pss j zero d z h = absurd (omega arith)
there pss j (suc n) d z h =
    let k : suc n - 1 ≡ n = omega arith in
    ap (take 1) (drop_more (get_or pss j []) n d (omega arith)) ∙ ap (λ i. get_or (get_or pss j []) i d ∷ []) (sym k)

module _ (vs : List (Vec (Vec ℕ Global) Global)) where
  abbrev pss : List (List (List ℕ))
  pss = map bytes_of vs

  -- one more put of replica j
  pub added : (j : ℕ) (d v : Vec (Vec ℕ Global) Global) (b : Vec ℕ Global) → j < length vs → vec_items v ≡ vec_items (get_or vs j d) ++ (b ∷ []) → map bytes_of (set vs j v) ≡ one_more pss j (vec_items b)
  added j d v b h e =
      let same : bytes_of v ≡ get_or pss j [] ++ (vec_items b ∷ []) = ap (map vec_items) e ∙ map_push vec_items (vec_items (get_or vs j d)) b ∙ ap (λ t. t ++ (vec_items b ∷ [])) (sym (get_or-map bytes_of vs j d [] h)) in
      map-set bytes_of vs j v ∙ ap (set pss j) same

  -- what replica j made, read from its vector
  puts_of : (j : ℕ) (d v : Vec (Vec ℕ Global) Global) (xs : List (Vec ℕ Global)) → j < length vs → v ≡ get_or vs j d → xs ≡ vec_items v → get_or pss j [] ≡ map vec_items xs
  puts_of j d v xs h e f = get_or-map bytes_of vs j d [] h ∙ ap bytes_of (sym e) ∙ ap (map vec_items) (sym f)

  pub found :
      (j n : ℕ) (d v : Vec (Vec ℕ Global) Global) (xs : List (Vec ℕ Global)) (b : Vec ℕ Global) (s : List ℕ) →
      j < length vs → v ≡ get_or vs j d → xs ≡ vec_items v → 0 < n → n - 1 < length xs → b ≡ get_or xs (n - 1) b → s ≡ vec_items b → put_made pss j n ≡ s ∷ []
  found j n d v xs b s h e f z k g t =
      let all = puts_of j d v xs h e f in
      let many = ap length all ∙ length-map xs vec_items in
      there pss j n [] z (omega arith) ∙ ap (λ x. x ∷ []) (ap (λ ys. get_or ys (n - 1) []) all ∙ get_or-map vec_items xs (n - 1) b [] k ∙ ap vec_items (sym g) ∙ sym t)
