-- How many bytes parts take.
use Rattle.std.proofs.Common.{◌≡◌, ℕ, zero, suc, ◌+◌, ◌<◌, ◌≤◌, List, [], ◌∷◌, ◌++◌, map, fold, length, get_or, take, sym, refl, ap, ◌∙◌, arith, length-append}
use Rattle.std.specs.List.{flat_map}
use Rattle.std.proofs.lemmas.List.{append_assoc, take_more, flat_map_more, length_push}
use Rattle.model.specs.Put as put
use Rattle.wire.specs.Bytes.{write_puts, write_item}
use Rattle.wire_out.specs.Said.{Put}
use Rattle.wire_out.specs.Said.{put_of, item}
use Rattle.wire_out.specs.Written.{capped}

-- A LIST, one after the other
pub joined_next : {X : Type 0} (f : X → List ℕ) (xs : List X) (i : ℕ) (d : X) → i < length xs → flat_map f (take (i + 1) xs) ≡ flat_map f (take i xs) ++ f (get_or xs i d)
joined_next f xs i d h = ap (flat_map f) (take_more xs i d h) ∙ sym (flat_map_more f [] (take i xs) (get_or xs i d))

-- there is room for the next
pub room : {X : Type 0} (f : X → List ℕ) (xs : List X) (i : ℕ) (d : X) → i < length xs → length (flat_map f (take i xs)) + length (f (get_or xs i d)) ≤ length (flat_map f xs)
room f [] i d h = absurd (omega arith)
room f (x ∷ xs) zero d h = simp length-append (omega arith)
room f (x ∷ xs) (suc i) d h = let more = room f xs i d (omega arith) in simp length-append (omega arith)

-- puts are their items and the end
pub puts_parts : (ps : List (put.Put put.Body)) → write_puts ps ≡ flat_map write_item ps ++ (0 ∷ [])
unfolding write_puts
puts_parts [] = refl
puts_parts (p ∷ ps) = ap (λ t. write_item p ++ t) (puts_parts ps) ∙ sym (append_assoc (write_item p) (flat_map write_item ps) (0 ∷ []))

items_map : (ps : List Put) → flat_map write_item (map put_of ps) ≡ flat_map item ps
items_map [] = refl
items_map (p ∷ ps) = ap (λ t. item p ++ t) (items_map ps)

pub puts_items : (ps : List Put) → write_puts (map put_of ps) ≡ flat_map item ps ++ (0 ∷ [])
puts_items ps = puts_parts (map put_of ps) ∙ ap (λ t. t ++ (0 ∷ [])) (items_map ps)

pub length_items : (ps : List Put) → length (write_puts (map put_of ps)) ≡ suc (length (flat_map item ps))
length_items ps = ap length (puts_items ps) ∙ length_push (flat_map item ps) 0 ∙ omega arith

pub room_next : (at to m : ℕ) (ps : List Put) (i : ℕ) (d : Put) → i < length ps → to ≡ at + length (flat_map item (take i ps)) → at + length (write_puts (map put_of ps)) ≤ m → to + length (item (get_or ps i d)) ≤ m
room_next at to m ps i d h e l = omega (arith, length_items ps, room item ps i d h)

-- the lengths of puts, one after the other
folded_from : (n : ℕ) (ps : List Put) → fold (λ m p. capped (capped (length (item p)) + m)) (capped n) ps ≡ capped (n + length (flat_map item ps))
folded_from n [] = ap capped (omega arith)
folded_from n (p ∷ ps) =
    let next : capped (capped (length (item p)) + capped n) ≡ capped (n + length (item p)) = omega arith in
    ap (λ m. fold (λ k q. capped (capped (length (item q)) + k)) m ps) next ∙ folded_from (n + length (item p)) ps ∙ ap capped (simp length-append (omega arith))

pub puts_folded : (ps : List Put) → fold (λ m p. capped (capped (length (item p)) + m)) 1 ps ≡ capped (length (write_puts (map put_of ps)))
puts_folded ps = folded_from 1 ps ∙ ap capped (omega (arith, length_items ps))
