use Rattle.sql_tree.proofs.WordLengths.{is_sort, no_words}
use Rattle.sql_tree.proofs.grammar.sort.word_sort.Goals as goal

pub returns-then-len-eq2 : goal.returns-then-len-eq2
returns-then-len-eq2 c = is_sort 2 c.args.word.now c.word_listed.result c.if-len-eq2.true c.word_listed.ensures

pub returns-then-len-eq3 : goal.returns-then-len-eq3
returns-then-len-eq3 c = is_sort 3 c.args.word.now c.word_listed-then-len-eq3.result c.if-len-eq3.true c.word_listed-then-len-eq3.ensures

pub returns-then-len-eq4 : goal.returns-then-len-eq4
returns-then-len-eq4 c = is_sort 4 c.args.word.now c.word_listed-then-len-eq4.result c.if-len-eq4.true c.word_listed-then-len-eq4.ensures

pub returns-then-len-eq5 : goal.returns-then-len-eq5
returns-then-len-eq5 c = is_sort 5 c.args.word.now c.word_listed-then-len-eq5.result c.if-len-eq5.true c.word_listed-then-len-eq5.ensures

pub returns-then-len-eq6 : goal.returns-then-len-eq6
returns-then-len-eq6 c = is_sort 6 c.args.word.now c.word_listed-then-len-eq6.result c.if-len-eq6.true c.word_listed-then-len-eq6.ensures

pub returns-then-len-eq7 : goal.returns-then-len-eq7
returns-then-len-eq7 c = is_sort 7 c.args.word.now c.word_listed-then-len-eq7.result c.if-len-eq7.true c.word_listed-then-len-eq7.ensures

pub returns-then-len-eq8 : goal.returns-then-len-eq8
returns-then-len-eq8 c = is_sort 8 c.args.word.now c.word_listed-then-len-eq8.result c.if-len-eq8.true c.word_listed-then-len-eq8.ensures

pub returns-then-len-eq9 : goal.returns-then-len-eq9
returns-then-len-eq9 c = is_sort 9 c.args.word.now c.word_listed-then-len-eq9.result c.if-len-eq9.true c.word_listed-then-len-eq9.ensures

pub returns-then-len-eq10 : goal.returns-then-len-eq10
returns-then-len-eq10 c = is_sort 10 c.args.word.now c.word_listed-then-len-eq10.result c.if-len-eq10.true c.word_listed-then-len-eq10.ensures

pub returns-then-len-eq12 : goal.returns-then-len-eq12
returns-then-len-eq12 c = is_sort 12 c.args.word.now c.word_listed-then-len-eq12.result c.if-len-eq12.true c.word_listed-then-len-eq12.ensures

pub returns-else-len-eq12 : goal.returns-else-len-eq12
returns-else-len-eq12 c =
    no_words c.args.word.now c.if-len-eq2.false c.if-len-eq3.false c.if-len-eq4.false c.if-len-eq5.false c.if-len-eq6.false c.if-len-eq7.false c.if-len-eq8.false c.if-len-eq9.false c.if-len-eq10.false c.if-len-eq12.false
