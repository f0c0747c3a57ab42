use Rattle.statement_meaning.specs.Answers.{can_be}
use Rattle.perm_engine.proofs.meaning.Courses.{course-of}
use Rattle.perm_engine.proofs.meaning.headline.runs.a_run_is_the_course_of_its_statements.Goals as goal

pub returns : goal.returns
returns c = λ files contents statements ran runs. course-of (can_be files) statements contents ran runs
