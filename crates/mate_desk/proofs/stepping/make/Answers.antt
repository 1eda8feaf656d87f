use Rattle.mate_desk.proofs.stepping.make.Goals as goal

pub returns-in-Submit-clause-makes : goal.returns-in-Submit-clause-makes
returns-in-Submit-clause-makes c = rw c.in-Submit.is (c.submit.ensures.makes c.args.hand.now.jobs)

pub returns-in-Take-clause-makes : goal.returns-in-Take-clause-makes
returns-in-Take-clause-makes c = rw c.in-Take.is (c.take.ensures.makes c.args.reader.now.default)

pub returns-in-Finish-clause-makes : goal.returns-in-Finish-clause-makes
returns-in-Finish-clause-makes c = rw c.in-Finish.is (c.finish.ensures.makes c.args.reader.now.default)

pub returns-in-HandBack-clause-makes : goal.returns-in-HandBack-clause-makes
returns-in-HandBack-clause-makes c = rw c.in-HandBack.is (c.hand_back.ensures.makes c.args.reader.now.default)

pub returns-in-Collect-clause-makes : goal.returns-in-Collect-clause-makes
returns-in-Collect-clause-makes c = rw c.in-Collect.is (c.collect.ensures.makes c.args.reader.now.default c.args.hand.now.jobs)

pub returns-in-Withdraw-clause-makes : goal.returns-in-Withdraw-clause-makes
returns-in-Withdraw-clause-makes c = rw c.in-Withdraw.is (c.withdraw.ensures.makes c.args.reader.now.default c.args.hand.now.jobs)

pub returns-in-Drained-clause-makes : goal.returns-in-Drained-clause-makes
returns-in-Drained-clause-makes c = rw c.in-Drained.is (c.drained.ensures.makes c.args.reader.now.default c.args.hand.now.jobs)

pub returns-in-Close-clause-makes : goal.returns-in-Close-clause-makes
returns-in-Close-clause-makes c = rw c.in-Close.is (c.close.ensures.makes c.args.reader.now.default c.args.hand.now.jobs)
