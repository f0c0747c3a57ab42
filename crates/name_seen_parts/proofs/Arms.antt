-- Parts of a tree where they stand, as operands and in the place of a whole.
use Rattle.std.specs.Prelude.{◌≡◌, ℕ}
use Rattle.std.proofs.Common.{refl, ap, sym}
use Rattle.perm_catalog.specs.Contents.{Contents}
use Rattle.sql_tree.specs.declared.expression.ExprTree.{ExprTree}
use Rattle.name_meaning.specs.Meanings.{Part, Surroundings, means_at}
use Rattle.name_meaning.specs.Operands.{operand}
use Rattle.name_meaning.specs.Trees.{part_of}
use Rattle.name_meaning.specs.declared.need.Need.{Need}
use Rattle.name_meaning.proofs.Equations.{token, exprtree-record}
use Rattle.name_seen_parts.specs.Standing.{operand_at}

pub part-at : (c : Contents) (tree : ExprTree) → (part_of c tree).at ≡ tree.at
unfolding token
part-at c tree = ap (λ (part : Part). part.at) (exprtree-record c tree.at tree.body)

pub operand-is : (c : Contents) (here : Surroundings) (need : Need) (tree : ExprTree)
    → operand_at c here need tree ≡ operand here need (part_of c tree)
unfolding means_at
operand-is c here need tree =
    ap (λ (at : ℕ). record { at = at; need = need; meant = (part_of c tree).means here }) (sym (part-at c tree))

-- a part that stands for the whole
pub means-is : (part : Part) (here : Surroundings) → part.means here ≡ means_at part here
unfolding means_at
means-is part here = refl
