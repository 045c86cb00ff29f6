-- The real stream behind a source or a sink.
use Rattle.outside_core.specs.declared.stream_source.StreamSource.{StreamSource}
use Rattle.outside_core.specs.declared.stream_sink.StreamSink.{StreamSink}

-- the stream that a source reads
abbrev pub read_stream : {R : Type 0} → StreamSource R → R
read_stream source = source.from

-- the stream that a sink writes
abbrev pub written_stream : {W : Type 0} → StreamSink W → W
written_stream sink = sink.to
