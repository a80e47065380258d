-- What contracts see of a reader.
use Rattle.std.specs.Prelude.{List}
use Rattle.soc_multipart.specs.declared.readers.Reader.TheInside.{Inside}
use Rattle.soc_multipart.specs.OwnedViews.{owned_texts}
use Rattle.soc_multipart.specs.Readers.{ReaderText}

abbrev pub reader_text : Inside → ReaderText
reader_text r = record {
  boundary = r.boundary.items;
  parts = owned_texts r.state.parts.items;
  section = r.state.section;
  bytes = r.state.tail.bytes.items;
  line = r.state.tail.line;
  fault = r.fault;
}
