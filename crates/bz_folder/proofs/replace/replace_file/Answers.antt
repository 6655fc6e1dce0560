use Rattle.std.proofs.Common.{inr}
use Rattle.bz_folder.proofs.Replaces.{replaces, puts, leaves}
use Rattle.bz_folder.proofs.replace.replace_file.Goals as goal

pub returns-in-Ok-clause-safe : goal.returns-in-Ok-clause-safe
returns-in-Ok-clause-safe g c =
    let b = c.begin.ensures in
    let w = c.write_to-answer.ensures in
    let f = c.finish.ensures in
    let empty = c.in-Ok.ensures.empty in
    let path = c.in-Ok.ensures.path in
    replaces g.D.Folder.did g.A.Author.gives c.args.file.now c.args.mode g.met.D.Folder.did_more c.args.draft.now c.begin.new.self c.write_to-answer.new.sink
    c.finish.new.draft.folder c.args.author.now c.write_to-answer.new.self b.folder path empty.0 empty.1 w.0 w.1 c.write_to-answer.result w.2 f.0 f.1 c.finish.result f.2

pub returns-in-Ok-clause-asked : goal.returns-in-Ok-clause-asked
returns-in-Ok-clause-asked g c =
    let w = c.write_to-answer.ensures in
    inr (w.0, c.write_to-answer.result, w.2)

pub returns-in-Ok-clause-unwanted : goal.returns-in-Ok-clause-unwanted
returns-in-Ok-clause-unwanted g c e =
    let b = c.begin.ensures in
    let w = c.write_to-answer.ensures in
    let f = c.finish.ensures in
    let empty = c.in-Ok.ensures.empty in
    let path = c.in-Ok.ensures.path in
    leaves g.D.Folder.did g.A.Author.gives c.args.file.now c.args.mode g.met.D.Folder.did_more c.args.draft.now c.begin.new.self c.write_to-answer.new.sink
    c.finish.new.draft.folder c.args.author.now c.write_to-answer.new.self b.folder path empty.0 empty.1 w.0 w.1 c.write_to-answer.result w.2 f.0 f.1 c.finish.result f.2 e

pub returns-in-Ok-clause-wanted : goal.returns-in-Ok-clause-wanted
returns-in-Ok-clause-wanted g c e =
    let b = c.begin.ensures in
    let w = c.write_to-answer.ensures in
    let f = c.finish.ensures in
    let empty = c.in-Ok.ensures.empty in
    let path = c.in-Ok.ensures.path in
    puts g.D.Folder.did g.A.Author.gives c.args.file.now c.args.mode g.met.D.Folder.did_more c.args.draft.now c.begin.new.self c.write_to-answer.new.sink
    c.finish.new.draft.folder c.args.author.now c.write_to-answer.new.self b.folder path empty.0 empty.1 w.0 w.1 c.write_to-answer.result w.2 f.0 f.1 c.finish.result f.2 e
