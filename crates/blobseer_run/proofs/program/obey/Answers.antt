use Rattle.settings.specs.declared.table.Command.TheVariants as Commands
use Rattle.blobseer_run.specs.Lending.{CameBack}
use Rattle.blobseer_run.specs.Status.{code_of}
use Rattle.blobseer_run.proofs.Lendings.{by_command}
use Rattle.blobseer_run.proofs.program.obey.Goals as goal

pub returns-in-Run-clause-lent : goal.returns-in-Run-clause-lent
returns-in-Run-clause-lent g c =
    by_command c.args.command Commands.Run c.args.settings.now (CameBack g.M.DoorMaker.hands_out g.M.DoorMaker.takes_back c.args.objects.now.doors.now c.serve_script.new.objects.doors.now) (code_of c.serve_script.result)
    c.in-Run.is c.serve_script.ensures.lent

pub returns-in-Serve-clause-lent : goal.returns-in-Serve-clause-lent
returns-in-Serve-clause-lent g c =
    by_command c.args.command Commands.Serve c.args.settings.now (CameBack g.M.DoorMaker.hands_out g.M.DoorMaker.takes_back c.args.objects.now.doors.now c.serve_peers.new.objects.doors.now) (code_of c.serve_peers.result)
    c.in-Serve.is c.serve_peers.ensures.lent

pub returns-in-Load-clause-lent : goal.returns-in-Load-clause-lent
returns-in-Load-clause-lent g c =
    by_command c.args.command Commands.Load c.args.settings.now (CameBack g.M.DoorMaker.hands_out g.M.DoorMaker.takes_back c.args.objects.now.doors.now c.run_load.new.objects.doors.now) (code_of c.run_load.result)
    c.in-Load.is c.run_load.ensures.lent

pub returns-in-Files-clause-lent : goal.returns-in-Files-clause-lent
returns-in-Files-clause-lent g c =
    by_command c.args.command Commands.Files c.args.settings.now (CameBack g.M.DoorMaker.hands_out g.M.DoorMaker.takes_back c.args.objects.now.doors.now c.answer_files.new.objects.doors.now) (code_of c.answer_files.result)
    c.in-Files.is c.answer_files.ensures.lent

pub returns-in-Watch-clause-lent : goal.returns-in-Watch-clause-lent
returns-in-Watch-clause-lent g c =
    by_command c.args.command Commands.Watch c.args.settings.now (CameBack g.M.DoorMaker.hands_out g.M.DoorMaker.takes_back c.args.objects.now.doors.now c.run_watch.new.objects.doors.now) (code_of c.run_watch.result)
    c.in-Watch.is c.run_watch.ensures.lent
