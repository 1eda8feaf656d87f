use Rattle.json_replies.proofs.answers.push_members.Goals as goal

pub returns : goal.returns
returns c = rw c.have_keys.ensures at c.push_members_by.ensures
