use Rattle.std.proofs.Common.{rules}
use Rattle.hexadecimal.proofs.Values.{digit_is}
use Rattle.hexadecimal.proofs.pair.Goals as goal

pub unwrap-requires : goal.unwrap-requires
unwrap-requires c = search (rules, digit_is c.args.a c.requires.0)

pub unwrap-requires-2 : goal.unwrap-requires-2
unwrap-requires-2 c = search (rules, digit_is c.args.b c.requires.1)

pub overflow_mul-result : goal.overflow_mul-result
overflow_mul-result c = search (rules, digit_is c.args.a c.requires.0)

pub overflow_add-result : goal.overflow_add-result
overflow_add-result c = search (rules, digit_is c.args.a c.requires.0, digit_is c.args.b c.requires.1)

pub returns : goal.returns
returns c = search (rules, digit_is c.args.a c.requires.0, digit_is c.args.b c.requires.1)
