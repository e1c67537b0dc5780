-- What stands before and behind the first space is what `cut_found` and `cut_read` say.
use Rattle.std.proofs.Common.{arith}
use Rattle.script.proofs.Cutting.{cut_found, cut_read}
use Rattle.script.proofs.calls.number_before.Goals as goal

pub returns-in_err-number-clause-found : goal.returns-in_err-number-clause-found
returns-in_err-number-clause-found c = λ n rest h same.
    let there = cut_found c.args.line.now c.split_once.result c.split_once.ensures.cases n rest (omega arith) same in
    absurd (rw c.in_err-number.was at there)

pub returns-in_err-number-2-clause-found : goal.returns-in_err-number-2-clause-found
returns-in_err-number-2-clause-found c = λ n rest h same.
    let there = cut_found c.args.line.now c.split_once.result c.split_once.ensures.cases n rest (omega arith) same in
    let cut = rw c.in_ok-number.was at there in
    let found = (c.number_of.ensures n).1 (h, cut.0) in
    cc (found, c.in_err-number-2.was)

pub returns-clause-read : goal.returns-clause-read
returns-clause-read c =
    let cut = cut_read c.args.line.now (c.in_ok-number.number, c.in_ok-number.rest) c.in_ok-number.ensures.cases in
    let read = (c.number_of.ensures c.in_ok-number-2.number).0 c.in_ok-number-2.was in
    (read.0, rw (← read.1) cut)

pub returns-clause-found : goal.returns-clause-found
returns-clause-found c = λ n rest h same.
    let there = cut_found c.args.line.now c.split_once.result c.split_once.ensures.cases n rest (omega arith) same in
    let cut = rw c.in_ok-number.was at there in
    let found = (c.number_of.ensures n).1 (h, cut.0) in
    (cc (found, c.in_ok-number-2.was), cut.1)
