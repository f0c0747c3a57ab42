use Rattle.bag_algebra.specs.Rewriting.{Stands}
use Rattle.perm_values.proofs.Taken.{opened}
use Rattle.simpler_laws.proofs.SingleJoins.{stands-without_left, stands-without_right}
use Rattle.simpler_laws.proofs.merged.joins.all_pairs.Goals as goal

pub returns-then-is_single : goal.returns-then-is_single
returns-then-is_single c q r h k =
    let given = c.in_ok-left.ensures in
    stands-without_right q c.in_ok-left.left r c.in_ok-left.right (c.is_single.ensures c.if-is_single.true)
    (opened (λ b. Stands q b) c.args.left _ given.first_was h) (opened (λ d. Stands r d) c.args.right _ given.second_was k)

pub returns-then-is_single-2 : goal.returns-then-is_single-2
returns-then-is_single-2 c q r h k =
    let given = c.in_ok-left.ensures in
    stands-without_left q c.in_ok-left.left r c.in_ok-left.right (c.is_single-2.ensures c.if-is_single-2.true)
    (opened (λ b. Stands q b) c.args.left _ given.first_was h) (opened (λ d. Stands r d) c.args.right _ given.second_was k)

pub returns : goal.returns
returns c q r h k =
    let given = c.in_ok-left.ensures in
    c.inner_join.ensures q r (opened (λ b. Stands q b) c.args.left _ given.first_was h) (opened (λ d. Stands r d) c.args.right _ given.second_was k)
