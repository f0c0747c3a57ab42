use Rattle.std.proofs.Common.{◌≡◌, Some, sym, ◌∙◌}
use Rattle.sql_lexer.specs.Reading.{unquoted}
use Rattle.sql_lexer.proofs.BetweenQuotes.{len_of}
use Rattle.sql_lexer.proofs.Undoubling.{quoted_held, quoted_closed}
use Rattle.sql_lexer.proofs.quotes.quoted.Goals as goal

pub new-requires : goal.new-requires
new-requires c =
    let is : Some c.in-Some.len ≡ len_of (unquoted c.args.quote c.args.rest.now) = sym c.in-Some.is ∙ c.up_to_quote.ensures.value in
    let within = rw c.in-Some.is at c.up_to_quote.ensures.within in
    rw c.kind_of.ensures (quoted_held c.args.quote c.in-Some.len c.args.rest.now c.requires.quote is c.args.at within.0 within.1 c.requires.fits c.requires.utf8)

pub returns-in-Some : goal.returns-in-Some
returns-in-Some c =
    let is : Some c.in-Some.len ≡ len_of (unquoted c.args.quote c.args.rest.now) = sym c.in-Some.is ∙ c.up_to_quote.ensures.value in
    let within = rw c.in-Some.is at c.up_to_quote.ensures.within in
    rw (c.new.ensures, c.kind_of.ensures) (quoted_closed c.args.quote c.in-Some.len c.args.rest.now c.requires.quote is c.args.at within.0 within.1)
