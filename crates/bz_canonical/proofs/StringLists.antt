-- Strings that are elements of lists.
use Rattle.std.proofs.Common.{◌≡◌, ℕ, suc, ◌+◌, List, ◌∷◌, ◌++◌, Bool, ◌||◌, ◌&&◌, true, false, refl, sym, subst, ap}
use Rattle.std.specs.Prelude.{nat_le}
use Rattle.bz_tree.specs.declared.tree.GroupKind.TheVariants.{List as ListKind}
use Rattle.bz_canonical.specs.private.Fronts.{IsQuotedFront}
use Rattle.bz_canonical.specs.private.Chains.{IsTermFront}
use Rattle.bz_layout.specs.Pieces.{indent}
use Rattle.bz_tree.specs.declared.tree.GroupKind.{GroupKind}
use Rattle.bz_canonical.specs.private.Segments.{Continues, IsBesideFront, IsGroupFront, IsSegmentFront}
use Rattle.bz_canonical.proofs.Tokens.{quoted_token}
use Rattle.bz_canonical.proofs.Operands.{broken_group, flat_group, list_value, string_value}
use Rattle.bz_canonical.proofs.Chained.{value_nodes, value_term}
use Rattle.bz_canonical.proofs.GroupSegments.{begin_flat, begin_notes, element_segment, finish, finish_flat, finish_notes, more, none_flat, or_no}

pub string_element : (level depth : ℕ) (text inner rest : List ℕ) → IsQuotedFront text inner rest → IsSegmentFront ListKind level depth text rest false
string_element level depth text inner rest q =
    element_segment level depth text rest false (value_nodes level depth text rest false (string_value text rest (quoted_token text inner rest q) level depth))

-- a list as an operand
list_term : (level depth : ℕ) (text inside rest : List ℕ) (h : Bool) → text ≡ 91 ∷ inside → IsGroupFront ListKind level depth (91 ∷ inside) rest h → IsTermFront level depth text rest h
list_term level depth text inside rest h opens g =
    subst (λ (t : List ℕ). IsTermFront level depth t rest h) (sym opens)
    (value_term level depth (91 ∷ inside) rest h (list_value level depth (91 ∷ inside) rest h g))

-- a list of no string
pub empty_list : (level below depth : ℕ) (text inside rest : List ℕ) → suc below ≡ depth → text ≡ 91 ∷ inside → inside ≡ 93 ∷ rest → IsTermFront level depth text rest false
empty_list level below depth text inside rest deeper opens closes =
    list_term level depth text inside rest false opens
    (flat_group ListKind level depth below inside inside rest 93 0 false deeper refl (none_flat ListKind level below inside) refl closes)

-- a list of one string in place
pub single_list : (level below depth : ℕ) (text inside inner end rest : List ℕ) → suc below ≡ depth → text ≡ 91 ∷ inside → IsQuotedFront inside inner end → end ≡ 93 ∷ rest → IsTermFront level depth text rest false
single_list level below depth text inside inner end rest deeper opens q closes =
    list_term level depth text inside rest false opens
    (flat_group ListKind level depth below inside end rest 93 1 false deeper refl
    (finish_flat ListKind true level below inside end 1 false (begin_flat ListKind level below inside end false (string_element level below inside inner end q)))
    refl closes)

-- a list on lines: some comment stands beside a string, or there are two
pub broken_list : (below depth : ℕ) (text inside middle rest : List ℕ) (n : ℕ) (c : Bool) → suc below ≡ depth → text ≡ 91 ∷ inside → Continues ListKind 2 below inside middle n false c
    → (c || nat_le 2 n) ≡ true → middle ≡ 10 ∷ (indent 1 ++ 93 ∷ rest) → IsTermFront 1 depth text rest true
broken_list below depth text inside middle rest n c deeper opens so broken closes =
    list_term 1 depth text inside rest true opens
    (broken_group ListKind 1 depth below inside middle middle (93 ∷ rest) rest 93 n false c false deeper refl (λ n. refl)
    (finish ListKind 2 below inside middle n false c so) (finish_notes 2 middle middle false (begin_notes 2 middle))
    (ap (λ b. b || (nat_le 2 n && false)) broken) closes refl)

-- one more segment that holds no group, without comments above it
pub plain_more : (kind : GroupKind) (level depth : ℕ) (text rest inner comma next : List ℕ) (n : ℕ) (h c e : Bool) → Continues kind level depth text rest n h c
    → rest ≡ 10 ∷ (indent level ++ inner) → IsSegmentFront kind level depth inner (44 ∷ comma) false → IsBesideFront comma next e
    → Continues kind level depth text next (n + 1) h (c || e)
plain_more kind level depth text rest inner comma next n h c e so line s beside =
    subst (λ b. Continues kind level depth text next (n + 1) b (c || e)) (or_no h)
    (more kind level depth text rest rest inner (44 ∷ comma) comma next n h false c false e so (finish_notes level rest rest false (begin_notes level rest)) line s refl beside)
