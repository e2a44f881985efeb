use Rattle.std.proofs.Common.{◌++◌, ◌∷◌, ◌∙◌, [], ap, append_assoc}
use Rattle.night_lines.specs.StartNetworks.{network_lines}
use Rattle.night_lines.specs.Starts.{closing_lines, record_told, sends_lines, show_lines}
use Rattle.night_lines.specs.Lines.{lines_of}
use Rattle.night_lines.proofs.Told.{behind}
use Rattle.night_lines.proofs.start.push_start.Goals as goal

pub returns-clause-lines : goal.returns-clause-lines
returns-clause-lines c = λ tells.
    let start = c.args.start.now in
    let before = lines_of c.args.lines.now in
    let show = show_lines start.show in
    let sends = show ++ sends_lines start.sends in
    let network = sends ++ network_lines start.network in
    let told = record_told start.recording ∷ [] in
    let end = closing_lines start.main start.is_interruptible in
    let at_record = c.push_end.ensures.told tells in
    let at_network = c.push_record.ensures.told at_record in
    let at_sends = c.push_network.ensures.told at_network in
    let at_show = c.push_sends.ensures.told at_sends in
    let second = behind before _ _ show (sends_lines start.sends)
    (c.push_sends.ensures.lines at_sends) (c.push_show.ensures.lines at_show) in
    let third = behind before _ _ sends (network_lines start.network)
    (c.push_network.ensures.lines at_network) second in
    let fourth = behind before _ _ network told (c.push_record.ensures.line at_record) third in
    behind before _ _ (network ++ told) end (c.push_end.ensures.lines tells) fourth
    ∙ ap (λ lines. before ++ lines) (append_assoc network told end)
